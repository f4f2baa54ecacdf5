use Rattle.std.proofs.Common.{◌≡◌, length, reverse}
use Rattle.pg_step.specs.PgMessageTypes.Reading.{read_each}
use Rattle.pg_node_requests.specs.Members.{group_of}
use Rattle.pg_node_requests.proofs.Collected.{following}
use Rattle.pg_node_requests.proofs.members.all_groups.Given as goal

abbrev pub invariant-loop-term : goal.invariant-loop-term
invariant-loop-term l = following l.groups.items (read_each group_of (reverse l.rest.items)) ≡ read_each group_of l.fn.terms.items

abbrev pub decreases-loop-term : goal.decreases-loop-term
decreases-loop-term l = length l.rest.items
