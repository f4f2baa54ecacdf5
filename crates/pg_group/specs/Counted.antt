-- The counts of one group, kept in an ordered map.
use Rattle.std.specs.Prelude.{◌≢◌, ℕ, Some, unwrap_or}
use Rattle.std.specs.BTreeMap.{get, BTreeMap}
use Rattle.pg_term.specs.declared.pid.Pid.{Pid}
use Rattle.pg_term.specs.Same.{pid_cmp}
use Rattle.pg_group.specs.Value.{Counts}

abbrev pub CountMap : Type 0
CountMap = BTreeMap Pid ℕ

-- a pid that is no key is no member
abbrev pub counts_in : CountMap → Counts
counts_in map pid = unwrap_or (get pid_cmp map pid) 0

-- no pid is kept with a count of 0
abbrev pub NoneIsZero : CountMap → Type 0
NoneIsZero map = (pid : Pid) → get pid_cmp map pid ≢ Some 0
