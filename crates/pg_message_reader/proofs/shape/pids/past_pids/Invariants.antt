use Rattle.std.proofs.Common.{◌≡◌, ◌≤◌, ℕ, List, Ok, length}
use Rattle.pg_term.specs.declared.term.Term.{Term}
use Rattle.pg_message_types.specs.PgTermIo.Reading.{item_at}
use Rattle.pg_message_types.specs.Parts.{pid_of}
use Rattle.pg_message_reader.specs.Shapes.Lists.{EndsAlike}
use Rattle.pg_message_reader.specs.Shapes.Shape.{members_of}
use Rattle.pg_message_reader.proofs.shape.pids.past_pids.Given as goal

abbrev pub invariant-elements : goal.invariant-elements
invariant-elements l = record {
  shorter : length l.left ≤ length l.bytes;
  left : (t : Term) (rest : List ℕ) → item_at l.levels l.bytes ≡ Ok (t, rest) → EndsAlike pid_of l.room l.count l.left (members_of t) rest;
}

abbrev pub decreases-elements : goal.decreases-elements
decreases-elements l = length l.left
