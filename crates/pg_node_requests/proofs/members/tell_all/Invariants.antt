use Rattle.std.proofs.Common.{◌≡◌, length, reverse}
use Rattle.pg_node_requests.specs.Members.{told_all}
use Rattle.pg_node_requests.proofs.members.tell_all.Given as goal

abbrev pub invariant-loop-term : goal.invariant-loop-term
invariant-loop-term l = told_all l.ports l.starts.items (reverse l.rest.items) ≡ told_all l.ports l.fn.starts.items l.fn.terms.items

abbrev pub decreases-loop-term : goal.decreases-loop-term
decreases-loop-term l = length l.rest.items
