-- What is left of a list, each element of which has to be something.
use Rattle.std.specs.Prelude.{◌≡◌, ℕ, List, Option, Ok, is_some}
use Rattle.pg_term.specs.declared.term.Term.{Term}
use Rattle.pg_message_types.specs.PgTermIo.Lists.{list_from}
use Rattle.pg_message_types.specs.Reading.{read_each}

-- the whole list is something exactly where what is left of it is
pub record EndsAlike {A : Type 0} (each : Term → Option A) (room count : ℕ) (left : List ℕ) (whole : Option (List A)) (rest : List ℕ) : Type 0 where
  pub elements : List Term
  pub read : list_from room count left ≡ Ok (elements, rest)
  pub same : is_some whole ≡ is_some (read_each each elements)
