-- What a step makes of a moment.
use Rattle.std.specs.Prelude.{◌≡◌, ◌⊎◌, ℕ, Bool, true, false, slice_get, List}
use Rattle.std.specs.Prelude.{Option, Some, None, Result, Ok, Err, option_and_then}
use Rattle.pg_world_packets.specs.PgStep.Config.{Config}
use Rattle.pg_world_packets.specs.PgStep.LossLaws.{LosingFrameWorld}
use Rattle.pg_world_packets.specs.PgStep.Step.{Retry as tried_again}
use Rattle.pg_world_packets.specs.PgStep.declared.refusal.Refusal.{Refusal}
use Rattle.pg_world_packets.specs.PgNodeState.declared.state.fault.NodeFault.{NodeFault}
use Rattle.pg_world_packets.specs.PgNodeState.declared.state.fault.NodeFault.TheVariants.{OutOfMemory}
use Rattle.pg_world_packets.specs.declared.step.FrameStep.{FrameStep}
use Rattle.pg_world_packets.specs.declared.step.Stepped.{Stepped}
use Rattle.pg_world_packets.specs.declared.step.Stepped.TheVariants.{Happened, Gone}
use Rattle.pg_world_packets.specs.Views.{View}
use Rattle.pg_world_packets.specs.Losing.{Telling, CanBeMade, LosingLed, ShowsLosing, told_of}
use Rattle.pg_world_packets.specs.Losing.{told_take, told_own, told_sight, told_loss}
use Rattle.pg_explore.specs.declared.moment.Moment.{Moment}
use Rattle.pg_explore.specs.declared.moves.Move.{Move}
use Rattle.pg_explore.specs.declared.moves.Move.TheVariants.{Take, Next, Loss, Retry, SeeLoss}
use Rattle.pg_explore.specs.declared.plan.Plan.{Plan}
use Rattle.pg_explore.specs.declared.plan.Planned.{Planned}
use Rattle.pg_explore.specs.declared.plan.Planned.TheVariants as planned
use Rattle.pg_explore.specs.Moments.{Progress, Sight, progress_after, sight_of}

-- what is planned next of a node
abbrev pub planned_next : List Plan → List Progress → ℕ → Option Planned
planned_next plans progress i = option_and_then (λ (strand : Progress). option_and_then (λ (plan : Plan). slice_get plan.steps.items strand.come) (slice_get plans i)) (slice_get progress i)

-- ---- what is told of a step

-- what is told of the step that is planned, where one is
abbrev pub told_planned : Config → LosingFrameWorld → Option Planned → Option Telling
told_planned config u (Some (planned.Step step)) = Some (told_of config u step)
told_planned config u (Some planned.Loss) = None
told_planned config u None = None

-- What is told of a step in a world with losses; None where nothing is planned.
abbrev pub told_move : Config → LosingFrameWorld → List Plan → List Progress → Move → Option Telling
told_move config u plans progress (Take i p) = Some (told_take config u i p)
told_move config u plans progress (Next i) = told_planned config u (planned_next plans progress i)
told_move config u plans progress (Loss i keep) = Some (told_loss config u i keep)
told_move config u plans progress (Retry i op) = Some (told_own config u i (tried_again op))
told_move config u plans progress (SeeLoss i p) = Some (told_sight config u i p)

-- ---- what comes of it

-- its event, which can be made, happened and led to a world that is shown
abbrev pub HasHappened : Config → LosingFrameWorld → Option Telling → (LosingFrameWorld → Type 0) → Type 0
HasHappened config u None Shown = ⊥
HasHappened config u (Some telling) Shown = CanBeMade telling × LosingLed config u telling.event Shown

-- a step led from one moment to another: whatever world of the machine the one shows, its event happens there, and the other shows what it leaves
pub record MoveLeads (plans : List Plan) (old : Sight) (step : Move) (new : Sight) : Type 0 where
  pub event : (config : Config) (u : LosingFrameWorld) → ShowsLosing config old.view old.lost u
      → HasHappened config u (told_move config u plans old.progress step) (ShowsLosing config new.view new.lost)
  pub progress : new.progress ≡ progress_after step old.progress

-- nothing is planned, no packet is on the way, or it is refused
abbrev pub IsBarred : Option Telling → Type 0
IsBarred None = Unit {0}
IsBarred (Some telling) = (telling.is_idle ≡ true) ⊎ ((refusal : Refusal) × (telling.refusal ≡ Some refusal))

-- a step does not happen at a moment: whatever world of the machine it shows, it is barred there
abbrev pub Stays : List Plan → Sight → Move → Type 0
Stays plans sight step = (config : Config) (u : LosingFrameWorld) → ShowsLosing config sight.view sight.lost u → IsBarred (told_move config u plans sight.progress step)

-- what came of a step
abbrev pub ComesOf : List Plan → Sight → Move → Option Moment → Type 0
ComesOf plans sight step None = Stays plans sight step
ComesOf plans sight step (Some moment) = MoveLeads plans sight step (sight_of moment)

-- what comes of a step of a world that is seen so, with the plans so far
abbrev pub ComesFrom : List Plan → View → List ℕ → List Progress → Move → Option Moment → Type 0
ComesFrom plans view lost progress step after = ComesOf plans (record { view = view; lost = lost; progress = progress }) step after

-- ---- what the step of a world came to

-- whether it happened
abbrev pub IsOutcome : Result Stepped NodeFault → Bool → Type 0
IsOutcome (Ok (Happened effect)) b = b ≡ true
IsOutcome (Ok Gone) b = b ≡ true
IsOutcome (Ok stepped) b = b ≡ false
IsOutcome (Err OutOfMemory) b = ⊥
IsOutcome (Err fault) b = b ≡ false

-- it happened, and led to a world that is shown, or it is barred
abbrev pub MoveCame : Config → LosingFrameWorld → Option Telling → Bool → (LosingFrameWorld → Type 0) → Type 0
MoveCame config u telling true Shown = HasHappened config u telling Shown
MoveCame config u telling false Shown = IsBarred telling

-- What is told of a world came, or not; from a world that is seen so, to another that is.
abbrev pub MakesTold : (Config → LosingFrameWorld → Option Telling) → View → List ℕ → View → List ℕ → Bool → Type 0
MakesTold telling old lost new now b = (config : Config) (u : LosingFrameWorld) → ShowsLosing config old lost u → MoveCame config u (telling config u) b (ShowsLosing config new now)

abbrev pub MakesStep : FrameStep → View → List ℕ → View → List ℕ → Bool → Type 0
MakesStep step old lost new now b = MakesTold (λ config u. Some (told_of config u step)) old lost new now b

abbrev pub MakesPlanned : Option Planned → View → List ℕ → View → List ℕ → Bool → Type 0
MakesPlanned next old lost new now b = MakesTold (λ config u. told_planned config u next) old lost new now b

abbrev pub MakesLoss : ℕ → List ℕ → View → List ℕ → View → List ℕ → Bool → Type 0
MakesLoss i keep old lost new now b = MakesTold (λ config u. Some (told_loss config u i keep)) old lost new now b

abbrev pub Makes : List Plan → List Progress → Move → View → List ℕ → View → List ℕ → Bool → Type 0
Makes plans progress step old lost new now b = MakesTold (λ config u. told_move config u plans progress step) old lost new now b
