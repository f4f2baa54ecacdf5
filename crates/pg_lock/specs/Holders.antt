-- Who holds a name, in a list that is sorted by the names and in a map of those beyond it.
use Rattle.std.specs.Prelude.{◌≡◌, ℕ, false, ◌&&◌, List, Option, Some, None, Result, Ok, Err}
use Rattle.std.specs.BTreeMap.{BTreeMap, get, is_at}
use Rattle.std.specs.List.{HoldsAt}
use Rattle.std.specs.List.Sorted.{IsStrictlySortedBy, IsPartitionPoint}
use Rattle.std.specs.Map.{keys_of, lookup}
use Rattle.std.specs.Option.{is_some}
use Rattle.std.specs.declared.cmp.Ordering.TheVariants.{Less, Equal, Greater}
use Rattle.pg_term.specs.declared.term.Term.{Term}
use Rattle.pg_term.specs.RefParts.{RefParts}
use Rattle.pg_term.specs.Same.{term_cmp}

-- each name is below those after it
abbrev pub AreSorted : List (Term × RefParts) → Type 0
AreSorted holders = IsStrictlySortedBy term_cmp (keys_of holders)

-- the holder of a name, as a list tells
abbrev pub holder_among : List (Term × RefParts) → Term → Option RefParts
holder_among holders name = lookup (is_at (term_cmp name)) holders

-- no name stands in both
abbrev pub AreApart : List (Term × RefParts) → BTreeMap Term RefParts → Type 0
AreApart holders beyond = (name : Term) → (is_some (holder_among holders name) && is_some (get term_cmp beyond name)) ≡ false

-- the holder of a name: that of the list, else that of those beyond it
abbrev pub first_holder : Option RefParts → Option RefParts → Option RefParts
first_holder (Some holder) beyond = Some holder
first_holder None beyond = beyond

abbrev pub holder_in : List (Term × RefParts) → BTreeMap Term RefParts → Term → Option RefParts
holder_in holders beyond name = first_holder (holder_among holders name) (get term_cmp beyond name)

-- where a name stands, or where it would: after all names below it, and before all above it
abbrev pub IsPlace : List (Term × RefParts) → Term → Result ℕ ℕ → Type 0
IsPlace holders name (Ok place) = HoldsAt (λ e. term_cmp e.0 name ≡ Equal) holders place
IsPlace holders name (Err place) = IsPartitionPoint (λ e. term_cmp e.0 name ≡ Less) (λ e. term_cmp e.0 name ≡ Greater) holders place

-- each name that has a holder in the one has the same in the other
abbrev pub IsWithin : (Term → Option RefParts) → (Term → Option RefParts) → Type 0
IsWithin one other = (name : Term) (holder : RefParts) → one name ≡ Some holder → other name ≡ Some holder
