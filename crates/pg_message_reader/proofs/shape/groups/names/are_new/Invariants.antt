use Rattle.std.proofs.Common.{◌≡◌, ◌≤◌, ℕ, List, Ok, length}
use Rattle.std.specs.List.{list_any}
use Rattle.std.specs.Ordering.{is_eq}
use Rattle.pg_term.specs.declared.term.Term.{Term}
use Rattle.pg_term.specs.Order.{kind_of}
use Rattle.pg_term.specs.Same.{term_cmp}
use Rattle.pg_message_types.specs.PgTermIo.Reading.{item_at}
use Rattle.pg_message_reader.proofs.Shapes.Apart.{IsKept}
use Rattle.pg_message_reader.proofs.shape.groups.names.are_new.Given as goal

abbrev pub invariant-elements : goal.invariant-elements
invariant-elements l = record {
  shallow : l.room ≤ 64;
  left : (t : Term) (rest : List ℕ) → item_at l.levels l.bytes ≡ Ok (t, rest) → kind_of t ≡ 5 → IsKept t rest (λ n. list_any (λ key. is_eq (term_cmp n key)) l.names.keys) l.room l.count l.left;
}

abbrev pub decreases-elements : goal.decreases-elements
decreases-elements l = length l.left
