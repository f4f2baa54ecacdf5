-- The rows of a group: each member once, in the order of pids, with its count.
use Rattle.std.specs.Prelude.{◌≡◌, ℕ, ◌+◌, ◌-◌, ◌<◌, ◌≤◌, Bool, true, false, ◌&&◌, cond}
use Rattle.std.specs.Prelude.{not, nat_le, List, [], ◌∷◌, ◌++◌, length, take, drop}
use Rattle.std.specs.List.{AllByRecursion}
use Rattle.std.specs.declared.cmp.Ordering.{Ordering}
use Rattle.std.specs.declared.cmp.Ordering.TheVariants.{Less, Equal, Greater}
use Rattle.pg_term.specs.declared.pid.Pid.{Pid}
use Rattle.pg_term.specs.Same.{same_pid, pid_cmp}
use Rattle.pg_group.specs.Value.{Counts}
use Rattle.pg_group.specs.Scope.{at_node}
use Rattle.pg_group.specs.Members.{put}
use Rattle.pg_index_members.specs.declared.row.Row.{Row}

-- how often each pid is a member
abbrev pub counts_of : List Row → Counts
counts_of [] pid = 0
counts_of (row ∷ rows) pid = cond (same_pid pid row.pid) row.count 0 + counts_of rows pid

-- the number of members, each as often as its count
abbrev pub total_of : List Row → ℕ
total_of [] = 0
total_of (row ∷ rows) = row.count + total_of rows

-- the members that pass a test, each as often as its count
abbrev pub spread : (Pid → Bool) → List Row → List Pid
spread among [] = []
spread among (row ∷ rows) = put (cond (among row.pid) row.count 0) row.pid (spread among rows)

-- each row counts a member, and each pid is less than those after it
abbrev pub AreRows : List Row → Type 0
AreRows [] = Unit {0}
AreRows (row ∷ rows) = (0 < row.count) × AllByRecursion (λ later. pid_cmp row.pid later.pid ≡ Less) rows × AreRows rows

-- whether all rows stand before an edge
abbrev pub all_before : (Pid → Bool) → List Row → Bool
all_before p [] = true
all_before p (row ∷ rows) = p row.pid && all_before p rows

-- the first so many rows stand before the edge, and no other
pub record IsCut (p : Pid → Bool) (rows : List Row) (at : ℕ) : Type 0 where
  pub within : at ≤ length rows
  pub front : AllByRecursion (λ row. p row.pid ≡ true) (take at rows)
  pub rest : AllByRecursion (λ row. p row.pid ≡ false) (drop at rows)

-- whether the first row is a pid's
abbrev pub is_here : Pid → List Row → Bool
is_here pid [] = false
is_here pid (row ∷ rows) = same_pid row.pid pid

-- rows with n counts more of a pid
abbrev pub added_by : Ordering → Row → List Row → List Row → Pid → ℕ → List Row
added_by Less row rows others pid n = row ∷ others
added_by Equal row rows others pid n = record { pid = row.pid; count = row.count + n } ∷ rows
added_by Greater row rows others pid n = record { pid = pid; count = n } ∷ row ∷ rows

abbrev pub added : List Row → Pid → ℕ → List Row
added [] pid n = record { pid = pid; count = n } ∷ []
added (row ∷ rows) pid n = added_by (pid_cmp row.pid pid) row rows (added rows pid n) pid n

-- rows with at most n counts less of a pid
abbrev pub taken_by : Ordering → Row → List Row → List Row → ℕ → List Row
taken_by Less row rows others n = row ∷ others
taken_by Equal row rows others n = cond (nat_le row.count n) rows (record { pid = row.pid; count = row.count - n } ∷ rows)
taken_by Greater row rows others n = row ∷ rows

abbrev pub one_taken : List Row → Pid → ℕ → List Row
one_taken [] pid n = []
one_taken (row ∷ rows) pid n = taken_by (pid_cmp row.pid pid) row rows (one_taken rows pid n) n

-- whether there is a row
abbrev pub has_rows : List Row → Bool
has_rows [] = false
has_rows (row ∷ rows) = true

-- all rows are those of two parts, and neither is empty
pub record IsSplit (all first later : List Row) : Type 0 where
  pub whole : all ≡ first ++ later
  pub first_some : 0 < length first
  pub later_some : 0 < length later
