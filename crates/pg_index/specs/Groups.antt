-- Groups by their numbers.
use Rattle.std.specs.Prelude.{◌≡◌, ℕ, Bool, false, cond, Option, None, Some, is_some, nat_eq, List}
use Rattle.slab.specs.Slab.{Slab, get}
use Rattle.pg_term.specs.declared.pid.Pid.{Pid}
use Rattle.pg_term.specs.Same.{same_pid}
use Rattle.pg_group.specs.Functions.{upd}
use Rattle.pg_group.specs.Value.{Counts, nobody, greater, told, IsBetween}
use Rattle.pg_group.specs.Scope.{at_node}
use Rattle.pg_index_members.specs.declared.row.Row.{Row}
use Rattle.pg_index_members.specs.Rows.{counts_of}

-- the counts of each group, by its number
abbrev pub Numbered : Type 0
Numbered = ℕ → Counts

-- a number that is free has no member
abbrev pub counts_at : Option (List Row) → Counts
counts_at None = nobody
counts_at (Some rows) = counts_of rows

abbrev pub counts_by_number : Slab (List Row) → Numbered
counts_by_number groups group = counts_at (get groups group)

-- whether a group has the number
abbrev pub is_used : Slab (List Row) → ℕ → Bool
is_used groups group = is_some (get groups group)

-- another count of one pid in one group
abbrev pub counts_changed : Numbered → ℕ → Pid → ℕ → Numbered
counts_changed counts group pid count = upd nat_eq counts group (upd same_pid (counts group) pid count)

-- no pid of the node
abbrev pub without_node : Counts → List ℕ → Counts
without_node counts node pid = cond (at_node node pid) 0 (counts pid)

abbrev pub without_nodes : Numbered → List ℕ → Numbered
without_nodes counts node group = without_node (counts group) node

-- the pid in no group
abbrev pub without_pid : Numbered → Pid → Numbered
without_pid counts pid group = upd same_pid (counts group) pid 0

-- one group with the counts of a list, where they are more
abbrev pub counts_raised : Numbered → ℕ → List Pid → (Pid → Bool) → Numbered
counts_raised counts group pids ended = upd nat_eq counts group (greater (counts group) (told pids ended))

-- one group with some counts raised, none above those of a list
pub record IsPartlyRaised (old new : Numbered) (group : ℕ) (pids : List Pid) (ended : Pid → Bool) : Type 0 where
  pub others : (other : ℕ) → nat_eq group other ≡ false → new other ≡ old other
  pub raised : IsBetween (old group) (greater (old group) (told pids ended)) (new group)
