-- When two tables say the same.
use Rattle.std.specs.Prelude.{◌≡◌, true, List}
use Rattle.std.specs.List.{list_any}
use Rattle.pg_term.specs.declared.term.Term.{Term}
use Rattle.pg_term.specs.Same.{same_term}
use Rattle.pg_group.specs.Table.{Table}

-- of the groups of these names
abbrev pub AgreeOn : Table → Table → List Term → Type 0
AgreeOn one other names = (name : Term) → list_any (same_term name) names ≡ true → one name ≡ other name
