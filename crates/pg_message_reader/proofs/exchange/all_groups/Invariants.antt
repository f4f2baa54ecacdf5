use Rattle.std.proofs.Common.{◌≡◌, length, reverse}
use Rattle.pg_message_types.specs.Reading.{read_each, group_of}
use Rattle.pg_message_reader.proofs.Collected.{following}
use Rattle.pg_message_reader.proofs.exchange.all_groups.Given as goal

abbrev pub invariant-loop-term : goal.invariant-loop-term
invariant-loop-term l = following l.groups.items (read_each group_of (reverse l.rest.items)) ≡ read_each group_of l.fn.terms.items

abbrev pub decreases-loop-term : goal.decreases-loop-term
decreases-loop-term l = length l.rest.items
