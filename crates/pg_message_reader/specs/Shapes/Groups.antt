-- What is seen of the names of groups where they stand.
use Rattle.std.specs.Prelude.{◌≡◌, ◌≢◌, [], ◌∷◌, take, Bool, true, false, is_some, Option, Some, None, Result, Ok, Err}
use Rattle.pg_term.specs.declared.term.Term.{Term}
use Rattle.pg_term.specs.Order.{kind_of}
use Rattle.pg_message_types.specs.Parts.{items_of}
use Rattle.pg_message_types.specs.Reading.{groups_of}
use Rattle.pg_message_reader.specs.declared.shape.groups.names.Name.{Name}
use Rattle.pg_message_reader.specs.Names.{all_in, names_of_groups, are_plain}
use Rattle.pg_message_reader.specs.Shapes.Leaves.{Names}
use Rattle.pg_message_reader.specs.Shapes.Shape.{listed_of}

-- whether the names of groups ascend; none where there is no list of groups
abbrev pub Sees : {E : Type 0} → Term → Result (Option Bool) E → Type 0
Sees t (Ok None) = listed_of t ≡ None
Sees t (Ok (Some true)) = is_some (groups_of t) ≡ true
Sees t (Ok (Some false)) = (is_some (listed_of t) ≡ true) × (are_plain (names_of_groups t) ≡ false)
Sees t (Err e) = are_plain (names_of_groups t) ≡ false

-- a name is the first element of a list
pub record FirstNames (name : Name) (t : Term) : Type 0 where
  pub first : Term
  pub is : take 1 (all_in (items_of t)) ≡ first ∷ []
  pub named : Names name first

-- the first element of a list is no atom
pub record BuildsFirst (t : Term) : Type 0 where
  pub first : Term
  pub is : take 1 (all_in (items_of t)) ≡ first ∷ []
  pub built : kind_of first ≢ 1
