use Rattle.std.proofs.Common.{◌≡◌, length}
use Rattle.pg_node_requests.specs.Members.{AreNumbered}
use Rattle.pg_node_requests.proofs.members.node_names.Given as goal

abbrev pub invariant-loop-place : goal.invariant-loop-place
invariant-loop-place l = (length l.names.items ≡ l.place) × AreNumbered l.names.items
