use Rattle.std.proofs.Common.{◌≡◌, ◌<◌, ℕ}
use Rattle.pg_node_ports.specs.Ports.{forgotten_in}
use Rattle.pg_node_ports.proofs.same.have_forgotten_as_many.Given as goal

abbrev pub invariant-loop-place : goal.invariant-loop-place
invariant-loop-place l = (k : ℕ) → k < l.place → forgotten_in l.ports k ≡ forgotten_in l.others k
