use Rattle.std.proofs.Common.{◌≡◌, ◌≤◌, ℕ, List, Ok, length}
use Rattle.pg_term.specs.declared.term.Term.{Term}
use Rattle.pg_term.specs.Order.{kind_of}
use Rattle.pg_message_types.specs.PgTermIo.Reading.{item_at}
use Rattle.pg_message_reader.proofs.Shapes.Rising.{Rises}
use Rattle.pg_message_reader.proofs.shape.groups.do_rise.Given as goal

abbrev pub invariant-elements : goal.invariant-elements
invariant-elements l = record {
  shallow : l.room ≤ 64;
  left : (t : Term) (rest : List ℕ) → item_at l.levels l.bytes ≡ Ok (t, rest) → kind_of t ≡ 5 → Rises t rest l.ascend l.last l.room l.count l.left;
}

abbrev pub decreases-elements : goal.decreases-elements
decreases-elements l = length l.left
