use Rattle.std.proofs.Common.{◌≡◌, length}
use Rattle.pg_node_ports.proofs.IdlePorts.{AreIdle}
use Rattle.pg_node_ports.proofs.port.idle_ports.Given as goal

abbrev pub invariant-loop-port : goal.invariant-loop-port
invariant-loop-port l = record { idle : AreIdle l.made.items; count : length l.made.items ≡ l.port }
