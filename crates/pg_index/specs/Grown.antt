-- Tables to which names were added.
use Rattle.std.specs.Prelude.{◌≡◌, ◌++◌, ℕ, true, false, List}
use Rattle.std.specs.List.{AllByRecursion}
use Rattle.pg_term.specs.declared.term.Term.{Term}
use Rattle.pg_index.specs.Groups.{counts_by_number, is_used}
use Rattle.pg_index.specs.Index.{Numbers}
use Rattle.pg_index.specs.declared.memberships.Memberships.{Memberships}

-- after the names that there were come others, with numbers that were free; each group that there was is as it was
pub record IsGrown (numbers : Numbers) (memberships : Memberships) (numbers' : Numbers) (memberships' : Memberships) : Type 0 where
  pub more : List (Term × ℕ)
  pub entries : numbers'.entries ≡ numbers.entries ++ more
  pub free : AllByRecursion (λ entry. is_used memberships.groups entry.1 ≡ false) more
  pub used : (group : ℕ) → is_used memberships.groups group ≡ true → is_used memberships'.groups group ≡ true
  pub kept : (group : ℕ) → is_used memberships.groups group ≡ true → counts_by_number memberships'.groups group ≡ counts_by_number memberships.groups group
