-- What a clause sees of the pauses of commands that wait.
use Rattle.std.specs.Prelude.{◌≡◌, ◌⊎◌, ℕ, ◌-◌, ◌≤◌, ◌||◌, Bool, true, false}
use Rattle.std.specs.Prelude.{cond, nat_le, List, [], ◌∷◌, Option, Some, None}
use Rattle.std.specs.List.{list_any}
use Rattle.pg_node_run.specs.declared.pauses.Pause.{Pause}
use Rattle.pg_node_run.specs.declared.pauses.Pauses.{Pauses}
use Rattle.pg_node_run.specs.declared.pauses.Wait.{Wait}
use Rattle.pg_node_run.specs.declared.pauses.Wait.TheVariants.{Turns, Due, Tried}
use Rattle.pg_node.specs.PgStep.declared.command.OpId.{OpId}
use Rattle.pg_node.specs.PgStep.Attempts.{same_op}

-- how a command waits, if it does
abbrev pub wait_in : OpId → List Pause → Option Wait
wait_in op [] = None
wait_in op (pause ∷ others) = cond (same_op pause.op op) (Some pause.wait) (wait_in op others)

abbrev pub wait_of : Pauses → OpId → Option Wait
wait_of pauses op = wait_in op pauses.entries.items

-- what is left of a pause ends with the next turn
abbrev pub is_over : Option Wait → Bool
is_over (Some (Turns left)) = nat_le left 1
is_over (Some Due) = true
is_over (Some Tried) = false
is_over None = false

-- turns are to pass until the command is tried
abbrev pub counts : Wait → Bool
counts (Turns left) = true
counts Due = true
counts Tried = false

abbrev pub counts_turns : Pause → Bool
counts_turns pause = counts pause.wait

-- that is so of a command
abbrev pub is_pausing : Pauses → Bool
is_pausing pauses = list_any counts_turns pauses.entries.items

-- a turn tries a command of which all has come that it gathers, and one whose pause is over by it
abbrev pub is_due : Bool → Option Wait → Bool
is_due ready wait = ready || is_over wait

-- the next turn that passes begins a pause
abbrev pub begins_next : Option Wait → Bool
begins_next (Some (Turns left)) = false
begins_next (Some Due) = false
begins_next (Some Tried) = true
begins_next None = true

-- a pause begins, of 1 to 4,096 turns
pub record BeginsPause (due : Bool) (after : Option Wait) : Type 0 where
  pub turns : ℕ
  pub least : 1 ≤ turns
  pub most : turns ≤ 4096
  pub waits : after ≡ Some (Turns turns)
  pub later : due ≡ false

-- A turn passed for a command that waits: its pause is a turn shorter, or over, and then it is due; where it has none, as where it was
-- tried since, one begins.
abbrev pub Passed : Option Wait → Bool → Option Wait → Type 0
Passed (Some (Turns left)) due after = (due ≡ nat_le left 1) × (after ≡ Some (cond (nat_le left 1) Due (Turns (left - 1))))
Passed (Some Due) due after = (due ≡ true) × (after ≡ Some Due)
Passed (Some Tried) due after = BeginsPause due after
Passed None due after = BeginsPause due after

-- ---- in a turn

-- A turn passed for a command that waits, and where its pause was over then the command may have been tried.
pub record Waited (before after : Option Wait) : Type 0 where
  pub due : Bool
  pub passed : Option Wait
  pub passes : Passed before due passed
  pub is : (after ≡ passed) ⊎ ((due ≡ true) × (after ≡ Some Tried))

-- What a turn makes of how a command waits, by whether all has come that it gathers and whether the turn was whole: a whole one passes
-- for it; where all has come none passes, and it may have been tried.
abbrev pub Waits : (ready whole : Bool) → Option Wait → Option Wait → Type 0
Waits false true before after = Waited before after
Waits false false before after = (after ≡ before) ⊎ Waited before after
Waits true whole before after = (after ≡ before) ⊎ (after ≡ Some Tried)
