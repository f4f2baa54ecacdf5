-- Steps over bytes that are made one after another: what each did, its number, its event or none, and what it changed.
use Rattle.std.specs.Prelude.{◌≡◌, ◌++◌, ℕ, not, List, [], ◌∷◌, Result, Ok, Err}
use Rattle.std.specs.List.{AllPass}
use Rattle.pg_world_packets.specs.PgStep.Machines.Losing.{LosingEvent, LosingLeads, nobody_gone}
use Rattle.pg_world_packets.specs.PgStep.Machines.Machine.{start_of}
use Rattle.pg_world_packets.specs.PgStep.Config.{Config}
use Rattle.pg_world_packets.specs.PgStep.FrameMachine.{last_notice, losing_frame_machine}
use Rattle.pg_world_packets.specs.PgStep.LossLaws.{LosingFrameWorld}
use Rattle.pg_world_packets.specs.PgStep.Step.{Action}
use Rattle.pg_world_packets.specs.PgNodeState.NodeFault.{node_number_of}
use Rattle.pg_world_packets.specs.PgNodeState.declared.state.fault.NodeFault.{NodeFault}
use Rattle.pg_world.specs.declared.step.Step.{Step}
use Rattle.pg_world_packets.specs.declared.step.Stepped.{Stepped}
use Rattle.pg_world.specs.Bars.{RefusesBarred, StepTellsUndrained, bar_of}
use Rattle.pg_world.specs.BytesLosing.{IsBytesEvent, ShowsLosingBytes, StepLeaves}
use Rattle.pg_world_packets.specs.Losing.{IsReachedLosing}
use Rattle.pg_world.specs.BytesStart.{OpensBytes}
use Rattle.pg_world.specs.Changes.{StepChanges}
use Rattle.pg_world.specs.Crossings.{Crossing, is_loss_in}
use Rattle.pg_world_packets.specs.Past.{Adds, IsPast}
use Rattle.pg_world_packets.specs.PgWorldAccount.Histories.{Account}
use Rattle.pg_world_packets.specs.PgWorldAccount.Losses.{is_lost}

-- none of these steps over bytes is a loss
abbrev pub NobodyLost : List Step → Type 0
NobodyLost all = AllPass (λ step. not (is_loss_in step)) all

-- the number of what a step did
abbrev pub number_of : Result Stepped NodeFault → ℕ
number_of (Ok stepped) = 0
number_of (Err fault) = node_number_of fault

-- Nodes and the bytes on the way between them show a world with losses to which events lead from the start.
pub record IsShown (config : Config) (crossing : Crossing) (u : LosingFrameWorld) : Type 0 where
  pub account : Account
  pub lost : List ℕ
  pub reached : IsReachedLosing config u
  pub shows : ShowsLosingBytes config crossing account lost u

-- What a step did in the world u, which is shown: its number, its event or none (more), the nodes and bytes that it left, and the world v
-- behind it. The rings have room for so many bytes.
pub record Crosses (config : Config) (room : ℕ) (old : Crossing) (u : LosingFrameWorld) (step : Step) (number : ℕ) (more : List (LosingEvent Action)) (new : Crossing) (v : LosingFrameWorld) : Type 0 where
  pub result : Result Stepped NodeFault
  pub listed : number ≡ number_of result
  -- its event, where it happened, and none where it did not
  pub added : Adds (IsBytesEvent config u step) result more
  pub led : LosingLeads (losing_frame_machine config) last_notice u more v
  -- the nodes that are lost; what bars the step is what it is refused by
  pub lost : List ℕ
  pub gone : u.gone ≡ is_lost lost
  pub barred : RefusesBarred (bar_of old lost step) result
  pub undrained : StepTellsUndrained old step result
  -- it changed what it has to change, what has to come of it came, and the world v is shown
  pub changes : StepChanges room old new step result
  pub leaves : StepLeaves config u step result (λ x. x ≡ v)
  pub shown : IsShown config new v

-- Steps with these numbers, one after another: these are their events, and these nodes, bytes and world are left.
abbrev pub CrossesAll : Config → ℕ → Crossing → LosingFrameWorld → List Step → List ℕ → List (LosingEvent Action) → Crossing → LosingFrameWorld → Type 0
CrossesAll config room old u [] [] events new v = (events ≡ []) × (old ≡ new) × (u ≡ v)
CrossesAll config room old u (step ∷ later) (number ∷ numbers) events new v =
    (more : List (LosingEvent Action)) × (others : List (LosingEvent Action)) × (next : Crossing) × (x : LosingFrameWorld)
    × Crosses config room old u step number more next x × (events ≡ more ++ others) × CrossesAll config room next x later numbers others new v
CrossesAll config room old u all numbers events new v = ⊥

-- steps with these numbers, which leave these nodes and bytes and a world that is shown
pub record CrossesTo (config : Config) (room : ℕ) (old : Crossing) (u : LosingFrameWorld) (all : List Step) (numbers : List ℕ) (new : Crossing) (Shown : LosingFrameWorld → Type 0) : Type 0 where
  pub events : List (LosingEvent Action)
  pub left : LosingFrameWorld
  pub chain : CrossesAll config room old u all numbers events new left
  pub shown : Shown left

-- What steps over bytes from the start of a configuration came to, with the number of each, whoever was lost; the rings have room for so
-- many bytes. New: the nodes and bytes that they left; Shown: the worlds of a configuration that these show.
pub record RanBytes (given : Config) (room : ℕ) (all : List Step) (numbers : List ℕ) (new : Crossing) (Shown : Config → LosingFrameWorld → Type 0) : Type 0 where
  pub config : Config
  -- the nodes as they begin
  pub first : Crossing
  pub opens : OpensBytes given first
  -- the events of the steps that happened, and the world to which they lead
  pub events : List (LosingEvent Action)
  pub u : LosingFrameWorld
  pub chain : CrossesAll config room first (nobody_gone (start_of (losing_frame_machine config))) all numbers events new u
  -- what holds of them: what survives losses, and where no node is lost the headline
  pub past : IsPast given Shown config events u
