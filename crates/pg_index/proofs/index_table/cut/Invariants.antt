use Rattle.std.proofs.Common.{◌≤◌, length}
use Rattle.pg_index.specs.Grown.{IsGrown}
use Rattle.pg_index.specs.Index.{Numbers}
use Rattle.pg_index.specs.declared.memberships.Memberships.{Memberships}
use Rattle.pg_index.proofs.index_table.cut.Given as goal

-- a table that grew from one of the first names still has
abbrev pub invariant-loop-numbers : goal.invariant-loop-numbers
invariant-loop-numbers l = record {
  enough : l.first ≤ length l.numbers.entries;
  kept : (n : Numbers) (m : Memberships) → length n.entries ≤ l.first → IsGrown n m l.initial.numbers l.initial.memberships → IsGrown n m l.numbers l.memberships;
}

abbrev pub decreases-loop-numbers : goal.decreases-loop-numbers
decreases-loop-numbers l = length l.numbers.entries
