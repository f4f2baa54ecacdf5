-- Which pids have ended.
use Rattle.std.specs.Prelude.{◌≡◌, ◌⊎◌, ℕ, Bool, true, ◌||◌, List}
use Rattle.std.specs.BTreeMap.{is_at}
use Rattle.std.specs.List.{filter, list_any}
use Rattle.pg_term.specs.declared.pid.Pid.{Pid}
use Rattle.pg_term.specs.Same.{atom_cmp}
use Rattle.pg_group.specs.declared.ended.Ended.{Ended}
use Rattle.pg_group.specs.Ends.{AreCounted, has_pid}
use Rattle.pg_group.specs.Scope.{at_node}

-- all pids of a node besides
abbrev pub ended_with : (Pid → Bool) → List ℕ → Pid → Bool
ended_with ended node pid = at_node node pid || ended pid

-- whether all pids of a node were put in at once
abbrev pub is_whole : Ended → List ℕ → Bool
is_whole ended node = list_any (is_at (atom_cmp node)) ended.nodes

-- the set as a test of pids
abbrev pub ended_of : Ended → Pid → Bool
ended_of ended pid = is_whole ended pid.node || has_pid ended.pids pid

-- the pids of a node that were put in one by one, in their order
abbrev pub single_of : Ended → List ℕ → List Pid
single_of ended node = filter (at_node node) ended.pids

-- each pid of the one test passes the other
abbrev pub IsWithin : (Pid → Bool) → (Pid → Bool) → Type 0
IsWithin one other = (pid : Pid) → one pid ≡ true → other pid ≡ true

-- How many pids have ended, those of a node of which all have apart: as many as there are in a list of such pids that lacks none of the others.
pub record IsEndedCount (ended : Pid → Bool) (count : ℕ) : Type 0 where
  pub pids : List Pid
  pub counted : AreCounted pids count
  pub each : (pid : Pid) → has_pid pids pid ≡ true → ended pid ≡ true
  pub all : (pid : Pid) → ended pid ≡ true → (has_pid pids pid ≡ true) ⊎ ((other : Pid) → other.node ≡ pid.node → ended other ≡ true)
