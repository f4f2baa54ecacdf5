-- What is behind a world: the events that led to it from the start of its configuration, and what holds of them.
use Rattle.std.specs.Prelude.{◌≡◌, ◌↔◌, ◌≤◌, ◌&&◌, ℕ, Bool, true, false, length, take, List, [], ◌∷◌, ◌++◌, Result, Ok}
use Rattle.pg_term.specs.declared.term.Term.{Term}
use Rattle.pg_node_state.specs.PgStep.Machines.Clocked.{plain}
use Rattle.pg_node_state.specs.PgStep.Machines.Losing.{LosingEvent, LosingLeads, nobody_gone, mapped}
use Rattle.pg_node_state.specs.PgStep.Machines.Machine.{start_of}
use Rattle.pg_node_state.specs.PgStep.Config.{Config}
use Rattle.pg_node_state.specs.PgStep.FrameMachine.{losing_frame_machine, last_notice, sent_packet}
use Rattle.pg_node_state.specs.PgStep.LossLaws.{LosingFrameWorld}
use Rattle.pg_node_state.specs.PgStep.Step.{Action}
use Rattle.pg_node_state.specs.PgStep.Machines.Places.{is_pair}
use Rattle.pg_laws_losses.specs.PgLaws.Headline.{OneHistory}
use Rattle.pg_laws_losses.specs.PgLaws.History.{Entry}
use Rattle.pg_laws_losses.specs.PgLaws.Reached.{Reaches}
use Rattle.pg_laws_losses.specs.PgLaws.Unstuck.{NothingIsStuck}
use Rattle.pg_laws_losses.specs.PgLaws.WithLosses.{FormedAtLosses}
use Rattle.pg_laws_losses.specs.Reached.{LosingReaches, steps_of}
use Rattle.pg_laws_losses.specs.Remains.Missed.{missed, missed_of}
use Rattle.pg_laws_losses.specs.Retrying.Survived.{LossesSurvived}
use Rattle.pg_node_state.specs.declared.state.fault.NodeFault.{NodeFault}
use Rattle.pg_world_packets.specs.declared.step.FrameStep.{FrameStep}
use Rattle.pg_world_packets.specs.declared.step.Stepped.{Stepped}
use Rattle.pg_world_packets.specs.declared.step.Stepped.TheVariants.{Happened, Gone}
use Rattle.pg_world_packets.specs.Losing.{ShowsLosing, LosingComesTo, seen_at, told_of}
use Rattle.pg_world_packets.specs.Runs.{IsToldEvent, RunsTo}
use Rattle.pg_world_packets.specs.Starts.{Orders}
use Rattle.pg_world_packets.specs.Views.{View}
use Rattle.pg_world_config.specs.Seen.{Seen}
use Rattle.pg_world_account.specs.Histories.{Account}
use Rattle.pg_world_packets.specs.Worlds.{TimedFrameWorld}

-- ---- what led to a world

-- The headline, of a world with losses in which no node is lost, and of the events that led to it; w: the same world, of nodes that
-- know of no loss. Nothing is stuck there.
pub record HasHeadline (config : Config) (events : List (LosingEvent Action)) (u : LosingFrameWorld) : Type 0 where
  pub w : TimedFrameWorld
  pub is : u ≡ nobody_gone (mapped sent_packet w)
  pub reached : Reaches config (steps_of events) w
  pub history : OneHistory config (steps_of events) (plain w)
  pub unstuck : NothingIsStuck config w

-- Events led from the start of a configuration, with the groups of each node in order, to a world with losses that is shown, and this
-- holds of them. Shown: the worlds of a configuration that the code's world shows.
pub record IsPast (given : Config) (Shown : Config → LosingFrameWorld → Type 0) (config : Config) (events : List (LosingEvent Action)) (u : LosingFrameWorld) : Type 0 where
  pub orders : Orders given config
  pub reached : LosingReaches config events u
  pub shows : Shown config u
  -- what survives losses, and where no node is lost the headline
  pub survived : LossesSurvived config events u
  pub history : ((i : ℕ) → u.gone i ≡ false) → HasHeadline config events u

-- Some events did, and every node was formed when the first was lost, or not, as is told.
pub record HasPast (given : Config) (formed : Bool) (Shown : Config → LosingFrameWorld → Type 0) : Type 0 where
  pub config : Config
  pub events : List (LosingEvent Action)
  pub u : LosingFrameWorld
  pub is : IsPast given Shown config events u
  pub at_losses : (formed ≡ true) ↔ FormedAtLosses config events
  pub few : length config ≤ 16

-- nodes and what is on the way between them, of which these are lost, have a past
abbrev pub FramesHavePast : Config → View → List ℕ → Type 0
FramesHavePast given view lost = HasPast given view.account.formed (λ config u. ShowsLosing config view lost u)

-- ---- what losses take along

-- Whether every node was formed when the first was lost, as is told, in the run that led to a world.
pub record FormedFirst (given : Config) (view : View) (lost : List ℕ) (formed : Bool) : Type 0 where
  pub past : FramesHavePast given view lost
  pub is : (formed ≡ true) ↔ FormedAtLosses past.config past.events

-- node i is there, and has seen the loss of node p
abbrev pub has_seen_in : List Seen → ℕ → ℕ → Bool
has_seen_in nodes i p = is_pair (length nodes) i p && seen_at nodes i p

-- Of the history of a group the entries of nodes whose loss node i has seen that it has not applied, as a world keeps them.
abbrev pub missed_in : List Seen → Account → ℕ → Term → List Entry
missed_in nodes account i name = missed_of (has_seen_in nodes i) (account.marked i name)

-- These are the entries that node i has missed in the run that led to a world; `survived.along` of that past says the rest.
pub record MissedInRun (given : Config) (view : View) (lost : List ℕ) (i : ℕ) (name : Term) (entries : List Entry) : Type 0 where
  pub past : FramesHavePast given view lost
  pub is : entries ≡ missed past.config past.u i name

-- ---- what a step adds

-- The events that a step adds: one that it can be, where it happened, and none where it did not.
abbrev pub Adds : (LosingEvent Action → Type 0) → Result Stepped NodeFault → List (LosingEvent Action) → Type 0
Adds Is (Ok (Happened effect)) more = (e : LosingEvent Action) × Is e × (more ≡ e ∷ [])
Adds Is (Ok Gone) more = (e : LosingEvent Action) × Is e × (more ≡ e ∷ [])
Adds Is result more = more ≡ []

-- Behind these events, which led to the world u, are those that a step adds. They led to the world v, and all of them are its past.
pub record LedOn (given : Config) (Shown : Config → LosingFrameWorld → Type 0) (Added : List (LosingEvent Action) → Type 0) (config : Config) (events : List (LosingEvent Action)) (u v : LosingFrameWorld) : Type 0 where
  pub more : List (LosingEvent Action)
  pub added : Added more
  pub led : LosingLeads (losing_frame_machine config) last_notice u more v
  pub past : IsPast given Shown config (events ++ more) v

-- What a step made of a world: what came of it in the world u to which its past led, and the past of what it left, which has the step's
-- own event more, where it happened. Old and New: what the code's world shows before and after; Is: which events the step can be in a
-- world; Comes: what comes of it there, which leads to worlds that are so.
pub record PastGoesOn (Is : Config → LosingFrameWorld → LosingEvent Action → Type 0) (given : Config) (Old New : Config → LosingFrameWorld → Type 0) (result : Result Stepped NodeFault)
    (Comes : Config → LosingFrameWorld → (LosingFrameWorld → Type 0) → Type 0) : Type 0 where
  pub config : Config
  pub events : List (LosingEvent Action)
  pub u : LosingFrameWorld
  pub past : IsPast given Old config events u
  pub comes : Comes config u (LedOn given New (Adds (Is config u) result) config events u)

-- each history begins with the older one of its group
abbrev pub HistoriesGrow : Account → Account → Type 0
HistoriesGrow old new = (name : Term) → take (length (old.histories name)) (new.histories name) ≡ old.histories name

-- ---- over packets

-- what a step made of them
abbrev pub FramesGoOn : Config → View → List ℕ → FrameStep → Result Stepped NodeFault → View → List ℕ → Type 0
FramesGoOn given old lost step result new now =
    PastGoesOn (λ config u. IsToldEvent (told_of config u step)) given (λ config u. ShowsLosing config old lost u) (λ config u. ShowsLosing config new now u) result
    (λ config u Shown. LosingComesTo config u (told_of config u step) result Shown)

-- What steps made of them, one after another: the numbers of the steps, and the events of those that happened, which led on from
-- the world u to which the past led, and are the last of the past of what was left.
pub record FramesRunOn (given : Config) (old : View) (lost : List ℕ) (all : List FrameStep) (numbers : List ℕ) (new : View) (now : List ℕ) : Type 0 where
  pub config : Config
  pub events : List (LosingEvent Action)
  pub u : LosingFrameWorld
  pub past : IsPast given (λ config u. ShowsLosing config old lost u) config events u
  pub more : List (LosingEvent Action)
  pub v : LosingFrameWorld
  pub runs : RunsTo config u all numbers more v
  pub later : IsPast given (λ config u. ShowsLosing config new now u) config (events ++ more) v

-- What steps from the start of a configuration came to, with the number of each, whoever was lost. Shown: the worlds of a configuration
-- that the code's world shows then.
pub record RanFrames (given : Config) (all : List FrameStep) (numbers : List ℕ) (Shown : Config → LosingFrameWorld → Type 0) : Type 0 where
  pub config : Config
  -- the events of the steps that happened, and the world to which they lead
  pub events : List (LosingEvent Action)
  pub u : LosingFrameWorld
  pub runs : RunsTo config (nobody_gone (start_of (losing_frame_machine config))) all numbers events u
  -- what holds of them: what survives losses, and where no node is lost the headline
  pub past : IsPast given Shown config events u
