use Rattle.std.proofs.Common.{◌≡◌, length}
use Rattle.pg_cluster.specs.Clients.{OpensMore}
use Rattle.pg_cluster.proofs.runs.open_ports.Given as goal

abbrev pub invariant-loop : goal.invariant-loop
invariant-loop l = (length l.ports.items ≡ l.counter) × OpensMore l.fn.clients.items l.clients.items l.ports.items
