-- What an indexed table of groups keeps.
use Rattle.std.specs.Prelude.{◌≡◌, ℕ, Bool, true, Option, Some, List}
use Rattle.std.specs.Option.{option_map}
use Rattle.indexmap.specs.IndexMap.{IndexMap, get}
use Rattle.std.specs.declared.hash.FoldHasher.{FoldHasher}
use Rattle.std.specs.declared.hash.BuildHasherDefault.{BuildHasherDefault}
use Rattle.pg_term.specs.declared.term.Term.{Term}
use Rattle.pg_term.specs.Same.{same_term}
use Rattle.pg_group.specs.Table.{Table}
use Rattle.pg_index_members.specs.declared.row.Row.{Row}
use Rattle.pg_index_members.specs.Rows.{counts_of}
use Rattle.pg_index.specs.Groups.{Numbered, counts_by_number}
use Rattle.pg_index.specs.declared.memberships.Memberships.{Memberships}

abbrev pub Numbers : Type 0
Numbers = IndexMap Term ℕ (BuildHasherDefault FoldHasher)

-- the number of a name
abbrev pub number_of : Numbers → Term → Option ℕ
number_of numbers name = get same_term numbers name

-- the group of a name is that of its number
abbrev pub contents_of : (Term → Option ℕ) → Numbered → Table
contents_of number_of counts name = option_map counts (number_of name)

-- each name's number is that of a group
abbrev pub HasGroups : (Term → Option ℕ) → (ℕ → Bool) → Type 0
HasGroups number_of used = (name : Term) (group : ℕ) → number_of name ≡ Some group → used group ≡ true

-- no two names have one number
abbrev pub AreNumberedApart : (Term → Option ℕ) → Type 0
AreNumberedApart number_of = (one other : Term) (group : ℕ) → number_of one ≡ Some group → number_of other ≡ Some group → same_term one other ≡ true

-- these are the rows of the group
abbrev pub MembersOf : Table → Term → Option (List Row) → Type 0
MembersOf table name rows = option_map counts_of rows ≡ table name

-- what an indexed table says: the group of each name
abbrev pub table_of : Numbers → Memberships → Table
table_of numbers memberships = contents_of (number_of numbers) (counts_by_number memberships.groups)
