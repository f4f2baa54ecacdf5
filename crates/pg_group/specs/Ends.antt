-- What the ended are seen as.
use Rattle.std.specs.Prelude.{◌≡◌, ◌-◌, ◌^◌, ℕ, min, Bool, List, [], length, map, unwrap_or}
use Rattle.std.specs.BTreeMap.{BTreeMap, get, is_at}
use Rattle.std.specs.List.{flat_map, list_any}
use Rattle.std.specs.List.Sorted.{IsStrictlySortedBy}
use Rattle.pg_term.specs.declared.pid.Pid.{Pid}
use Rattle.pg_term.specs.Same.{atom_cmp, pid_cmp}
use Rattle.pg_group.specs.declared.number.Number.{Number}
use Rattle.pg_group.specs.Numbers.{pid_at}

-- the nodes that were put in as a whole, and the pids that were put in one by one, each in order
pub record Ends : Type 0 where
  pub nodes : List (List ℕ)
  pub pids : List Pid

-- Pids, each once, and how many they are, as far as 64 bits tell.
pub record AreCounted (pids : List Pid) (count : ℕ) : Type 0 where
  pub ordered : IsStrictlySortedBy pid_cmp pids
  pub length : count ≡ min (length pids) (2 ^ 64 - 1)

-- the pids of a node that have these numbers
abbrev pub pids_at : List ℕ × List Number → List Pid
pids_at entry = map (pid_at entry.0) entry.1

-- whether a list has a pid
abbrev pub has_pid : List Pid → Pid → Bool
has_pid pids pid = list_any (is_at (pid_cmp pid)) pids

-- those of nodes, one after the other
abbrev pub all_pids : List (List ℕ × List Number) → List Pid
all_pids entries = flat_map pids_at entries

-- the numbers of a node, none where it is not there
abbrev pub numbers_at : BTreeMap (List ℕ) (List Number) → List ℕ → List Number
numbers_at numbers node = unwrap_or (get atom_cmp numbers node) []
