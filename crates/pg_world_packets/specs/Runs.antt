-- What comes of steps that are made one after another, whoever is lost.
use Rattle.std.specs.Prelude.{◌≡◌, ◌⊎◌, ℕ, false, not, cond, List, [], ◌∷◌, Some}
use Rattle.std.specs.List.{AllPass}
use Rattle.std.specs.Option.{option_map_or}
use Rattle.pg_node_state.specs.PgStep.Machines.Losing.{LosingEvent, losing_happens}
use Rattle.pg_node_state.specs.PgStep.Config.{Config}
use Rattle.pg_node_state.specs.PgStep.Faults.{refusal_number_of}
use Rattle.pg_node_state.specs.PgStep.FrameMachine.{losing_frame_machine, last_notice}
use Rattle.pg_node_state.specs.PgStep.LossLaws.{LosingFrameWorld}
use Rattle.pg_node_state.specs.PgStep.Step.{Action}
use Rattle.pg_world_packets.specs.declared.step.FrameStep.{FrameStep}
use Rattle.pg_world_packets.specs.Losing.{Telling, CanBeMade, is_told_first, told_of}
use Rattle.pg_world_packets.specs.Worlds.{is_loss}

-- none of these steps is a loss
abbrev pub LosesNone : List FrameStep → Type 0
LosesNone all = AllPass (λ step. not (is_loss step)) all

-- ---- one step

-- the number of a step that did nothing, by what is told of it: that of its refusal, 0 where no packet was on the way, and 10, out of
-- memory, where it could have happened
abbrev pub number_left : Telling → ℕ
number_left told = option_map_or refusal_number_of told.refusal (cond told.is_idle 0 10)

-- A step that did nothing has the number of what is told of it, in the place of which memory may run out where no refusal is told first.
abbrev pub IsLeftOut : Telling → ℕ → Type 0
IsLeftOut told number = (number ≡ number_left told) ⊎ ((is_told_first told.refusal ≡ false) × (number ≡ 10))

-- the event that is told, which can be made
abbrev pub IsToldEvent : Telling → LosingEvent Action → Type 0
IsToldEvent told e = (e ≡ told.event) × CanBeMade told

-- The event of a step happened in the world u, and the step's number is 0; the rest follows in the world that it left.
pub record IsMade (config : Config) (u : LosingFrameWorld) (step : FrameStep) (number : ℕ) (Rest : LosingEvent Action → LosingFrameWorld → Type 0) : Type 0 where
  pub listed : number ≡ 0
  pub e : LosingEvent Action
  pub is : IsToldEvent (told_of config u step) e
  pub left : LosingFrameWorld
  pub happened : losing_happens (losing_frame_machine config) last_notice u e ≡ Some left
  pub rest : Rest e left

-- what came of a step: it happened and led to a world that is shown, or left the world as it was
abbrev pub StepsTo : Config → LosingFrameWorld → FrameStep → ℕ → (LosingFrameWorld → Type 0) → Type 0
StepsTo config u step number Shown = IsMade config u step number (λ e left. Shown left) ⊎ (IsLeftOut (told_of config u step) number × Shown u)

-- ---- runs

-- These events are led by one event, and the others follow.
pub record Led {E : Type 0} (event : E) (events : List E) (Rest : List E → Type 0) : Type 0 where
  pub later : List E
  pub first : events ≡ event ∷ later
  pub rest : Rest later

-- Steps from the world u have these numbers, the events of those that happened are these, in their order, and lead to the world v.
abbrev pub RunsTo : Config → LosingFrameWorld → List FrameStep → List ℕ → List (LosingEvent Action) → LosingFrameWorld → Type 0
RunsTo config u [] [] events v = (events ≡ []) × (u ≡ v)
RunsTo config u (step ∷ later) (number ∷ numbers) events v =
    IsMade config u step number (λ e left. Led e events (λ others. RunsTo config left later numbers others v))
    ⊎ (IsLeftOut (told_of config u step) number × RunsTo config u later numbers events v)
RunsTo config u all numbers events v = ⊥

-- steps from the world u have these numbers, and lead to a world that is shown
pub record GoesTo (config : Config) (u : LosingFrameWorld) (all : List FrameStep) (numbers : List ℕ) (Shown : LosingFrameWorld → Type 0) : Type 0 where
  pub events : List (LosingEvent Action)
  pub left : LosingFrameWorld
  pub runs : RunsTo config u all numbers events left
  pub shown : Shown left
