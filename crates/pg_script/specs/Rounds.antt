-- Rounds of steps until nothing moves.
use Rattle.std.specs.Prelude.{◌≡◌, ℕ, zero, suc, ◌<◌, ◌⊎◌, Bool, true, false, not}
use Rattle.std.specs.Prelude.{◌||◌, nat_eq, List, Option, Some, None, Result, Ok, Err}
use Rattle.pg_script_trace.specs.PgGroup.declared.table.GroupTable.{Ghosts}
use Rattle.pg_script_trace.specs.PgStep.Config.{Config}
use Rattle.pg_script_trace.specs.PgStep.declared.refusal.Refusal.TheVariants.{NodeLost}
use Rattle.pg_script_trace.specs.PgNodeState.declared.state.fault.NodeFault.{NodeFault}
use Rattle.pg_script_trace.specs.PgNodeState.declared.state.fault.NodeFault.TheVariants.{Refused}
use Rattle.pg_script_trace.specs.PgWorldAccount.Histories.{Account}
use Rattle.pg_script_trace.specs.PgWorldPackets.declared.step.FrameStep.TheVariants as frames
use Rattle.pg_script_trace.specs.PgWorldPackets.declared.step.Stepped.{Stepped}
use Rattle.pg_script_trace.specs.PgWorldPackets.declared.step.Stepped.TheVariants.{Nothing, Moved}
use Rattle.pg_script_trace.specs.PgWorld.declared.byte_world.World.{World}
use Rattle.pg_script_trace.specs.PgWorld.declared.step.Step.{Step}
use Rattle.pg_script_trace.specs.PgWorld.declared.step.Step.TheVariants as steps
use Rattle.pg_script_trace.specs.PgWorld.Bars.{bytes_lost_after}
use Rattle.pg_script_trace.specs.PgWorld.ByteWorlds.{account_of, crossing_of, given_of, lost_of, room_of}
use Rattle.pg_script_trace.specs.PgWorld.BytesPast.{BytesGoOn}
use Rattle.pg_script_trace.specs.PgWorld.Changes.{StepChanges}
use Rattle.pg_script_trace.specs.PgWorld.Crossings.{Crossing}

-- ---- a step

-- how a world is seen: its configuration, its nodes and bytes, what it keeps of updates, who is lost, and the room of its rings
pub record View : Type 0 where
  pub given : Config
  pub crossing : Crossing
  pub account : Account
  pub lost : List ℕ
  pub room : ℕ

abbrev pub view_of : {T : Type 0} {g : Ghosts T} → World T g → View
view_of world = record { given = given_of world; crossing = crossing_of world; account = account_of world; lost = lost_of world; room = room_of world }

-- a step was made, and this came of it
pub record CameOfStep (step : Step) (made : Result Stepped NodeFault) (old new : View) : Type 0 where
  pub goes_on : ∥ BytesGoOn old.given old.crossing old.account old.lost step made new.crossing new.account new.lost ∥₁
  pub changes : StepChanges old.room old.crossing new.crossing step made
  pub lost : new.lost ≡ bytes_lost_after step made old.lost
  pub given : new.given ≡ old.given
  pub room : new.room ≡ old.room

-- whether it moved a byte or was an event; a step of a lost node is passed over, and at any other refusal the rounds end
abbrev pub moved_by : Result Stepped NodeFault → Option Bool
moved_by (Ok Nothing) = Some false
moved_by (Ok (Moved count)) = Some (not (nat_eq count 0))
moved_by (Ok stepped) = Some true
moved_by (Err (Refused NodeLost)) = Some false
moved_by (Err fault) = None

pub record MovesBy (step : Step) (moved : Bool) (old new : View) : Type 0 where
  pub made : Result Stepped NodeFault
  pub makes : CameOfStep step made old new
  pub is : moved_by made ≡ Some moved

-- ---- a round

-- whether something moved, from one view of a world to another
abbrev pub RoundPart : Type 1
RoundPart = Bool → View → View → Type 0

-- one part, and then another
pub record Then (first later : RoundPart) (moved : Bool) (old new : View) : Type 0 where
  pub between : View
  pub one : Bool
  pub other : Bool
  pub begins : first one old between
  pub ends : later other between new
  pub is : moved ≡ (one || other)

pub record Still (moved : Bool) (old new : View) : Type 0 where
  pub none : moved ≡ false
  pub same : new ≡ old

-- bytes go from one node to another, and it takes a packet
abbrev pub RoundPasses : (from to : ℕ) → RoundPart
RoundPasses from to = Then (MovesBy (steps.Put from to 65536)) (Then (MovesBy (steps.Pull to from 65536)) (MovesBy (steps.Event (frames.Take to from))))

-- no node sends to itself
abbrev pub PassesIf : Bool → (from to : ℕ) → RoundPart
PassesIf true from to = Still
PassesIf false from to = RoundPasses from to

-- from a node to each of the first so many
abbrev pub RowFrom : (from count : ℕ) → RoundPart
RowFrom from zero = Still
RowFrom from (suc to) = Then (RowFrom from to) (PassesIf (nat_eq from to) from to)

-- from each of the first so many nodes to each of all
abbrev pub Rows : (nodes count : ℕ) → RoundPart
Rows nodes zero = Still
Rows nodes (suc from) = Then (Rows nodes from) (RowFrom from nodes)

abbrev pub Round : (nodes : ℕ) → RoundPart
Round nodes = Rows nodes nodes

-- ---- rounds

pub record After (before : View → View → Type 0) (last : RoundPart) (moved : Bool) (old new : View) : Type 0 where
  pub between : View
  pub begins : before old between
  pub ends : last moved between new

-- so many rounds, in each of which something moved
abbrev pub AllMoved : (nodes rounds : ℕ) → View → View → Type 0
AllMoved nodes zero old new = new ≡ old
AllMoved nodes (suc rounds) old new = After (AllMoved nodes rounds) (Round nodes) true old new

-- fewer such rounds, and one in which nothing moved
pub record Rests (nodes rounds : ℕ) (old new : View) : Type 0 where
  pub before : ℕ
  pub fewer : before < rounds
  pub rests : After (AllMoved nodes before) (Round nodes) false old new

-- All rounds were made, and something moved in each; or one was made in which nothing moved, and it is the last.
abbrev pub Settles : (nodes rounds : ℕ) → View → View → Type 0
Settles nodes rounds old new = AllMoved nodes rounds old new ⊎ Rests nodes rounds old new
