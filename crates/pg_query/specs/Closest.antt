-- The member that a group offers to a process of one node (get_closest_pid/1 of the pg2 manual page, with the choice
-- made by a word that the caller gives).
use Rattle.std.specs.Prelude.{◌≡◌, ℕ, ◌%◌, ◌⊎◌, Option, Some, List, [], length, slice_get}
use Rattle.pg_term.specs.declared.pid.Pid.{Pid}
use Rattle.pg_group.specs.Value.{Value}
use Rattle.pg_group.specs.Scope.{anywhere, at_node}
use Rattle.pg_group.specs.Members.{IsMemberList}

-- the local members; all members, where none is local
abbrev pub AreNearest : Value → List ℕ → List Pid → Type 0
AreNearest v own pids = IsMemberList v (at_node own) pids ⊎ (IsMemberList v (at_node own) [] × IsMemberList v anywhere pids)

-- what a word picks, counted round the list
abbrev pub picked : List Pid → ℕ → Option Pid
picked pids word = slice_get pids (word % length pids)

-- the word picks this member among the nearest
pub record IsClosest (v : Value) (own : List ℕ) (word : ℕ) (pid : Pid) : Type 0 where
  pub among : List Pid
  pub nearest : AreNearest v own among
  pub place : picked among word ≡ Some pid
