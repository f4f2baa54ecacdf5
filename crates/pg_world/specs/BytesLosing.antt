-- Worlds over bytes whose nodes may be lost: the world with losses that they show, and what a step makes of it.
use Rattle.std.specs.Prelude.{◌≡◌, ℕ, Bool, true, false, ◌||◌, cond, length, List, Option, Some, None, Result, Ok, Err}
use Rattle.pg_world_packets.specs.PgStep.Machines.Places.{is_place, is_pair}
use Rattle.pg_world_packets.specs.PgStep.Machines.Losing.{LosingEvent, Lose}
use Rattle.pg_world_packets.specs.PgStep.declared.refusal.Refusal.{Refusal}
use Rattle.pg_world_packets.specs.PgStep.declared.refusal.Refusal.TheVariants.{NoSuchPlace, NodeLost, NotLost, NotDrained}
use Rattle.pg_world_packets.specs.PgStep.Config.{Config}
use Rattle.pg_world_packets.specs.PgStep.LossLaws.{LosingFrameWorld}
use Rattle.pg_world_packets.specs.PgStep.Step.{Action, Issue, Retry}
use Rattle.pg_world_packets.specs.PgLaws.WithLosses.{has_seen}
use Rattle.pg_world_packets.specs.PgNodeState.declared.state.fault.NodeFault.{NodeFault}
use Rattle.pg_world_packets.specs.PgNodeState.declared.state.fault.NodeFault.TheVariants.{Refused, OutOfMemory}
use Rattle.pg_world_packets.specs.declared.step.FrameStep.{FrameStep}
use Rattle.pg_world_packets.specs.declared.step.FrameStep.TheVariants as frames
use Rattle.pg_world.specs.declared.step.Step.{Step}
use Rattle.pg_world.specs.declared.step.Step.TheVariants as steps
use Rattle.pg_world_packets.specs.declared.step.Stepped.{Stepped}
use Rattle.pg_world_packets.specs.declared.step.Stepped.TheVariants.{Nothing, Moved, Gone}
use Rattle.pg_world.specs.Crossings.{Crossing, ShowsBytesPast}
use Rattle.pg_world_packets.specs.Losing.{SeenAreLost, Telling, is_told_first, losing_of, told_of, told_take}
use Rattle.pg_world_packets.specs.Losing.{told_own, told_sight, LosingLed, LosingComesTo}
use Rattle.pg_world_packets.specs.PgWorldAccount.Histories.{Account}
use Rattle.pg_world_packets.specs.Runs.{IsToldEvent}
use Rattle.pg_world_packets.specs.Worlds.{TimedFrameWorld}

-- ---- the world with losses that a world shows

-- Nodes and the bytes on the way between them, of which these nodes are lost, and what is kept of the updates, are those of a world with
-- losses.
pub record ShowsLosingBytes (config : Config) (crossing : Crossing) (account : Account) (lost : List ℕ) (u : LosingFrameWorld) : Type 0 where
  pub frames : TimedFrameWorld
  pub shows : ShowsBytesPast config lost crossing account frames
  pub seen : SeenAreLost config frames lost
  pub is : u ≡ losing_of config frames lost

-- ---- bytes that should move

-- why bytes of node x are not put for node y, the first that holds
abbrev pub put_refusal : Config → LosingFrameWorld → ℕ → ℕ → Option Refusal
put_refusal config u x y = cond (is_pair (length config) x y) (cond (u.gone x) (Some NodeLost) None) (Some NoSuchPlace)

-- why they are not pulled there
abbrev pub pull_refusal : Config → LosingFrameWorld → ℕ → ℕ → Option Refusal
pull_refusal config u y x = cond (is_pair (length config) x y) (cond (u.gone y || has_seen config u y x) (Some NodeLost) None) (Some NoSuchPlace)

-- What came of bytes that should move: they moved, or memory ran out; or it is refused as is told. The same world is shown.
abbrev pub MoveLeaves : Option Refusal → Result Stepped NodeFault → Type 0 → Type 0
MoveLeaves refusal (Ok (Moved count)) Shown = (refusal ≡ None) × Shown
MoveLeaves refusal (Ok stepped) Shown = ⊥
MoveLeaves refusal (Err OutOfMemory) Shown = (refusal ≡ None) × Shown
MoveLeaves refusal (Err (Refused r)) Shown = (refusal ≡ Some r) × Shown
MoveLeaves refusal (Err fault) Shown = ⊥

-- ---- events

-- What came of a packet that should be taken: as over packets, but that nothing is told where no whole frame has come, and no refusal is
-- told first.
abbrev pub WholeComesTo : Config → LosingFrameWorld → Telling → Result Stepped NodeFault → (LosingFrameWorld → Type 0) → Type 0
WholeComesTo config u told (Ok Nothing) Shown = (is_told_first told.refusal ≡ false) × Shown u
WholeComesTo config u told result Shown = LosingComesTo config u told result Shown

-- a refusal that stands before NotDrained, where a loss should be seen
abbrev pub bars_sight : Option Refusal → Bool
bars_sight (Some NoSuchPlace) = true
bars_sight (Some NodeLost) = true
bars_sight (Some NotLost) = true
bars_sight refusal = false

-- What came of a loss that should be seen: as over packets, but that bytes of the lost node which are on the ring, if no more than a
-- piece of a frame, bar it, where no earlier refusal holds.
abbrev pub SightComesTo : Config → LosingFrameWorld → Telling → Result Stepped NodeFault → (LosingFrameWorld → Type 0) → Type 0
SightComesTo config u told (Err (Refused NotDrained)) Shown = (bars_sight told.refusal ≡ false) × Shown u
SightComesTo config u told result Shown = LosingComesTo config u told result Shown

-- why a node is not lost, the first that holds
abbrev pub gone_refusal : Config → LosingFrameWorld → ℕ → Option Refusal
gone_refusal config u i = cond (is_place (length config) i) (cond (u.gone i) (Some NodeLost) None) (Some NoSuchPlace)

-- What came of the loss of a node: nothing refuses it, it is lost, and on each way from it so many packets stay as were put whole; or
-- memory ran out where nothing refuses it, or it was refused as is told.
abbrev pub LossComesTo : Config → LosingFrameWorld → ℕ → Result Stepped NodeFault → (LosingFrameWorld → Type 0) → Type 0
LossComesTo config u i (Ok Gone) Shown = (gone_refusal config u i ≡ None) × (keep : ℕ → ℕ) × LosingLed config u (Lose i keep) Shown
LossComesTo config u i (Ok stepped) Shown = ⊥
LossComesTo config u i (Err OutOfMemory) Shown = (gone_refusal config u i ≡ None) × Shown u
LossComesTo config u i (Err (Refused r)) Shown = (gone_refusal config u i ≡ Some r) × Shown u
LossComesTo config u i (Err fault) Shown = ⊥

abbrev pub EventLeaves : Config → LosingFrameWorld → FrameStep → Result Stepped NodeFault → (LosingFrameWorld → Type 0) → Type 0
EventLeaves config u (frames.Take i p) result Shown = WholeComesTo config u (told_take config u i p) result Shown
EventLeaves config u (frames.Command i port command) result Shown = LosingComesTo config u (told_own config u i (Issue port command)) result Shown
EventLeaves config u (frames.Retry i op) result Shown = LosingComesTo config u (told_own config u i (Retry op)) result Shown
EventLeaves config u (frames.SeeLoss i p) result Shown = SightComesTo config u (told_sight config u i p) result Shown
EventLeaves config u (frames.Lose i keep) result Shown = LossComesTo config u i result Shown

-- ---- steps

-- What came of a step over bytes in the world with losses u, whoever is lost.
abbrev pub StepLeaves : Config → LosingFrameWorld → Step → Result Stepped NodeFault → (LosingFrameWorld → Type 0) → Type 0
StepLeaves config u (steps.Put x y max) result Shown = MoveLeaves (put_refusal config u x y) result (Shown u)
StepLeaves config u (steps.Pull y x max) result Shown = MoveLeaves (pull_refusal config u y x) result (Shown u)
StepLeaves config u (steps.Event step) result Shown = EventLeaves config u step result Shown
StepLeaves config u (steps.Lose i) result Shown = LossComesTo config u i result Shown

-- ---- which events a step can be

-- the loss of a node, whatever stays on the ways from it
abbrev pub IsLossOf : ℕ → LosingEvent Action → Type 0
IsLossOf i e = (keep : ℕ → ℕ) × (e ≡ Lose i keep)

abbrev pub IsFrameEvent : Config → LosingFrameWorld → FrameStep → LosingEvent Action → Type 0
IsFrameEvent config u (frames.Lose i keep) e = (gone_refusal config u i ≡ None) × IsLossOf i e
IsFrameEvent config u step e = IsToldEvent (told_of config u step) e

abbrev pub IsBytesEvent : Config → LosingFrameWorld → Step → LosingEvent Action → Type 0
IsBytesEvent config u (steps.Put x y max) e = ⊥
IsBytesEvent config u (steps.Pull y x max) e = ⊥
IsBytesEvent config u (steps.Event step) e = IsFrameEvent config u step e
IsBytesEvent config u (steps.Lose i) e = (gone_refusal config u i ≡ None) × IsLossOf i e
