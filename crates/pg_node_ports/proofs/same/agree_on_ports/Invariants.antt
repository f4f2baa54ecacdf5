use Rattle.pg_node_ports.proofs.SamePorts.{AgreeBelow}
use Rattle.pg_node_ports.proofs.same.agree_on_ports.Given as goal

abbrev pub invariant-loop-place : goal.invariant-loop-place
invariant-loop-place l = AgreeBelow l.ports l.others l.place
