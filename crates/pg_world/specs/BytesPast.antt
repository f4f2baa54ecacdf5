-- What is behind a world of bytes: the events that led to it from the start of its configuration, and what holds of them.
use Rattle.std.specs.Prelude.{◌≡◌, ◌↔◌, ◌++◌, ℕ, Bool, true, List, Result}
use Rattle.pg_term.specs.declared.term.Term.{Term}
use Rattle.pg_world_packets.specs.PgStep.Machines.Losing.{LosingEvent}
use Rattle.pg_world_packets.specs.PgStep.Config.{Config}
use Rattle.pg_world_packets.specs.PgStep.LossLaws.{LosingFrameWorld}
use Rattle.pg_world_packets.specs.PgStep.Step.{Action}
use Rattle.pg_world_packets.specs.PgLaws.History.{Entry}
use Rattle.pg_world_packets.specs.PgLaws.WithLosses.{FormedAtLosses}
use Rattle.pg_world_packets.specs.PgLawsLosses.Remains.Missed.{missed}
use Rattle.pg_world_packets.specs.PgNodeState.declared.state.fault.NodeFault.{NodeFault}
use Rattle.pg_world.specs.declared.step.Step.{Step}
use Rattle.pg_world_packets.specs.declared.step.Stepped.{Stepped}
use Rattle.pg_world.specs.BytesLosing.{IsBytesEvent, ShowsLosingBytes, StepLeaves}
use Rattle.pg_world.specs.CrossingRuns.{CrossesAll}
use Rattle.pg_world.specs.Crossings.{Crossing}
use Rattle.pg_world_packets.specs.PgWorldAccount.Histories.{Account}
use Rattle.pg_world_packets.specs.Past.{HasPast, IsPast, PastGoesOn}

-- nodes and the bytes on the way between them, of which these are lost, and what is kept of the updates, have a past
abbrev pub BytesHavePast : Config → Crossing → Account → List ℕ → Type 0
BytesHavePast given crossing account lost = HasPast given account.formed (λ config u. ShowsLosingBytes config crossing account lost u)

-- Whether every node was formed when the first was lost, as is told, in the run that led to a world.
pub record BytesFormedFirst (given : Config) (crossing : Crossing) (account : Account) (lost : List ℕ) (formed : Bool) : Type 0 where
  pub past : BytesHavePast given crossing account lost
  pub is : (formed ≡ true) ↔ FormedAtLosses past.config past.events

-- These are the entries that node i has missed in the run that led to a world; `survived.along` of that past says the rest.
pub record BytesMissed (given : Config) (crossing : Crossing) (account : Account) (lost : List ℕ) (i : ℕ) (name : Term) (entries : List Entry) : Type 0 where
  pub past : BytesHavePast given crossing account lost
  pub is : entries ≡ missed past.config past.u i name

-- what a step made of them
abbrev pub BytesGoOn : Config → Crossing → Account → List ℕ → Step → Result Stepped NodeFault → Crossing → Account → List ℕ → Type 0
BytesGoOn given old account lost step result new later now =
    PastGoesOn (λ config u. IsBytesEvent config u step) given (λ config u. ShowsLosingBytes config old account lost u) (λ config u. ShowsLosingBytes config new later now u) result
    (λ config u Shown. StepLeaves config u step result Shown)

-- What steps made of them, one after another, where the rings have room for so many bytes: the numbers of the steps, and the events of those
-- that happened, which led on from the world u to which the past led, and are the last of the past of what was left.
pub record BytesRunOn (given : Config) (room : ℕ) (old : Crossing) (account : Account) (lost : List ℕ) (all : List Step) (numbers : List ℕ) (new : Crossing) (after : Account) (now : List ℕ) : Type 0 where
  pub config : Config
  pub events : List (LosingEvent Action)
  pub u : LosingFrameWorld
  pub past : IsPast given (λ config u. ShowsLosingBytes config old account lost u) config events u
  pub more : List (LosingEvent Action)
  pub v : LosingFrameWorld
  pub chain : CrossesAll config room old u all numbers more new v
  pub later : IsPast given (λ config u. ShowsLosingBytes config new after now u) config (events ++ more) v
