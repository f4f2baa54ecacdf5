-- The members of a group as a list: pids in their order, each as often as its count.
use Rattle.std.specs.Prelude.{◌≡◌, ℕ, zero, suc, Bool, false, cond, List, [], ◌∷◌, count_by}
use Rattle.std.specs.List.{AllByRecursion}
use Rattle.std.specs.Ordering.{is_gt}
use Rattle.pg_term.specs.declared.pid.Pid.{Pid}
use Rattle.pg_term.specs.Same.{same_pid, pid_cmp}
use Rattle.pg_group.specs.Value.{Value, count_in}

-- no pid is greater than one that stands after it
abbrev pub IsInOrder : List Pid → Type 0
IsInOrder [] = Unit {0}
IsInOrder (pid ∷ pids) = AllByRecursion (λ later. is_gt (pid_cmp pid later) ≡ false) pids × IsInOrder pids

-- how often a pid is among the members that pass a test
abbrev pub count_among : Value → (Pid → Bool) → Pid → ℕ
count_among v among pid = cond (among pid) (count_in v pid) 0

-- a pid n times before others
abbrev pub put : ℕ → Pid → List Pid → List Pid
put zero pid pids = pids
put (suc n) pid pids = pid ∷ put n pid pids

-- these are the members of a group that pass a test; an absent group has none
pub record IsMemberList (v : Value) (among : Pid → Bool) (pids : List Pid) : Type 0 where
  pub ordered : IsInOrder pids
  pub each : (pid : Pid) → count_by (same_pid pid) pids ≡ count_among v among pid
