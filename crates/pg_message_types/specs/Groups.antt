-- Groups in the order of terms.
use Rattle.std.specs.Prelude.{◌≡◌, Bool, true, false, ◌&&◌, List, ◌∷◌, Option, IfSome}
use Rattle.std.specs.declared.cmp.Ordering.{Ordering}
use Rattle.std.specs.declared.cmp.Ordering.TheVariants.{Less, Equal, Greater}
use Rattle.pg_term.specs.declared.pid.Pid.{Pid}
use Rattle.pg_term.specs.declared.term.Term.{Term}
use Rattle.pg_term.specs.Same.{term_cmp}
use Rattle.pg_message_types.specs.Reading.{Groups}

abbrev pub is_less : Ordering → Bool
is_less Less = true
is_less Equal = false
is_less Greater = false

-- what is a group has this name
abbrev pub IsNamed : Term → Option (Term × List Pid) → Type 0
IsNamed name group = IfSome group (λ g. g.0 ≡ name)

-- each name is less than the next, as a node tells its groups
abbrev pub is_ascending : Groups → Bool
is_ascending (group ∷ next ∷ groups) = is_less (term_cmp group.0 next.0) && is_ascending (next ∷ groups)
is_ascending groups = true
