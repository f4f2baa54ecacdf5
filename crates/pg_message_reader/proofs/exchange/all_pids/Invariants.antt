use Rattle.std.proofs.Common.{◌≡◌, length, reverse}
use Rattle.pg_message_types.specs.Parts.{pid_of}
use Rattle.pg_message_types.specs.Reading.{read_each}
use Rattle.pg_message_reader.proofs.Collected.{following}
use Rattle.pg_message_reader.proofs.exchange.all_pids.Given as goal

abbrev pub invariant-loop-term : goal.invariant-loop-term
invariant-loop-term l = following l.pids.items (read_each pid_of (reverse l.rest.items)) ≡ read_each pid_of l.fn.terms.items

abbrev pub decreases-loop-term : goal.decreases-loop-term
decreases-loop-term l = length l.rest.items
