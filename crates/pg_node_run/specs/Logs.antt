-- What the phases of a turn log.
use Rattle.std.specs.Prelude.{◌≡◌, ◌⊎◌, ℕ, Bool, true, false, List, [], ◌∷◌, ◌++◌, Result, Ok, Err}
use Rattle.pg_node.specs.PgNodeState.declared.state.fault.NodeFault.{NodeFault}
use Rattle.pg_node_run.specs.declared.log.NodeEvent.{NodeEvent}
use Rattle.pg_node_run.specs.declared.log.NodeEvent.TheVariants as events
use Rattle.pg_node_run.specs.declared.pauses.Pauses.{Pauses}
use Rattle.pg_node_run.specs.Pauses.{begins_next, is_due, wait_of}
use Rattle.pg_node.specs.PgStep.declared.command.OpId.{OpId}

-- each of these entries is of such an event
abbrev pub AreOf : (NodeEvent → Type 0) → List (ℕ × NodeEvent) → Type 0
AreOf Wanted [] = Unit {0}
AreOf Wanted (entry ∷ entries) = Wanted entry.1 × AreOf Wanted entries

-- a log grew by entries of such events alone
pub record LogsOnly (Wanted : NodeEvent → Type 0) (log log2 : List (ℕ × NodeEvent)) : Type 0 where
  pub more : List (ℕ × NodeEvent)
  pub grew : log2 ≡ log ++ more
  pub each : AreOf Wanted more

abbrev pub IsTake : NodeEvent → Type 0
IsTake (events.Take peer) = Unit {0}
IsTake (events.Command port command) = ⊥
IsTake (events.Retry op) = ⊥
IsTake (events.SeeLoss peer) = ⊥

abbrev pub IsCommand : NodeEvent → Type 0
IsCommand (events.Take peer) = ⊥
IsCommand (events.Command port command) = Unit {0}
IsCommand (events.Retry op) = ⊥
IsCommand (events.SeeLoss peer) = ⊥

-- A retry of a command that was ready, or whose pause was over; after it the next turn begins a pause.
abbrev pub IsDueRetry : (ready : OpId → Bool) → Pauses → Pauses → NodeEvent → Type 0
IsDueRetry ready pauses pauses2 (events.Take peer) = ⊥
IsDueRetry ready pauses pauses2 (events.Command port command) = ⊥
IsDueRetry ready pauses pauses2 (events.Retry op) = (is_due (ready op) (wait_of pauses op) ≡ true) × (begins_next (wait_of pauses2 op) ≡ true)
IsDueRetry ready pauses pauses2 (events.SeeLoss peer) = ⊥

-- a loss was seen
abbrev pub saw_loss : Result Bool NodeFault → Bool
saw_loss (Ok seen) = seen
saw_loss (Err fault) = false

-- the loss of a peer is logged
pub record LogsOneLoss (log log2 : List (ℕ × NodeEvent)) : Type 0 where
  pub clock : ℕ
  pub peer : ℕ
  pub grew : log2 ≡ log ++ (clock, events.SeeLoss peer) ∷ []

-- it is, or nothing is
abbrev pub LogsLoss : Bool → List (ℕ × NodeEvent) → List (ℕ × NodeEvent) → Type 0
LogsLoss true log log2 = LogsOneLoss log log2
LogsLoss false log log2 = log2 ≡ log

-- a command was tried again, and the next turn begins a pause for it
pub record LogsRetry (op : OpId) (pauses2 : Pauses) (log log2 : List (ℕ × NodeEvent)) : Type 0 where
  pub clock : ℕ
  pub grew : log2 ≡ log ++ (clock, events.Retry op) ∷ []
  pub begins : begins_next (wait_of pauses2 op) ≡ true

-- it was, or nothing happened
abbrev pub MayLogRetry : OpId → Pauses → List (ℕ × NodeEvent) → List (ℕ × NodeEvent) → Type 0
MayLogRetry op pauses2 log log2 = (log2 ≡ log) ⊎ LogsRetry op pauses2 log log2

-- What a turn logs, in its order: the packets that it took, the loss that it saw, if any, the commands that came in, by which the log
-- is `came`, and the commands that it tried again.
pub record TurnLogs (lost : Bool) (ready : OpId → Bool) (pauses pauses2 : Pauses) (log came log2 : List (ℕ × NodeEvent)) : Type 0 where
  pub taken : List (ℕ × NodeEvent)
  pub takes : LogsOnly IsTake log taken
  pub seen : List (ℕ × NodeEvent)
  pub sees : LogsLoss lost taken seen
  pub commands : LogsOnly IsCommand seen came
  pub retries : LogsOnly (IsDueRetry ready pauses pauses2) came log2
