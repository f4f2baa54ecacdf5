-- What came of an event where no node knows of a loss: a step of the proofs of what comes of one where nodes may be lost.
use Rattle.std.specs.Prelude.{◌≡◌, cond, length, List, [], ◌∷◌, Option, Some, None, Result, Ok, Err}
use Rattle.pg_node_state.specs.PgMessageTypes.declared.message.Message.{Message}
use Rattle.pg_node_state.specs.PgStep.Machines.Places.{is_place, is_pair}
use Rattle.pg_node_state.specs.PgStep.Machines.Machine.{Event, Take, Do, happens}
use Rattle.pg_node_state.specs.PgStep.Machines.Clocked.{Timed, Stamped}
use Rattle.pg_node_state.specs.PgStep.declared.refusal.Refusal.{Refusal}
use Rattle.pg_node_state.specs.PgStep.declared.refusal.Refusal.TheVariants.{NoSuchPlace}
use Rattle.pg_node_state.specs.PgStep.Config.{Config, name_at, nodes_at, ports_at}
use Rattle.pg_node_state.specs.PgStep.FrameMachine.{frame_machine}
use Rattle.pg_node_state.specs.PgStep.Nodes.{Node, Nodes}
use Rattle.pg_node_state.specs.PgStep.State.{State}
use Rattle.pg_node_state.specs.PgStep.Step.{Action, TimedTurn, step_take, step_act}
use Rattle.pg_node_state.specs.declared.state.fault.NodeFault.{NodeFault}
use Rattle.pg_node_state.specs.declared.state.fault.NodeFault.TheVariants.{Refused, OutOfMemory}
use Rattle.pg_world_packets.specs.declared.step.Stepped.{Stepped}
use Rattle.pg_world_packets.specs.declared.step.Stepped.TheVariants.{Nothing, Happened}
use Rattle.pg_world_packets.specs.Effects.{effect_in}
use Rattle.pg_world_packets.specs.Worlds.{TimedFrameWorld}

-- what the step of a node tells of the first packet of a peer; None where there is none
abbrev pub told_of_first : Nodes → Node → Timed State → List (Stamped Message) → Option (Result TimedTurn Refusal)
told_of_first m p s [] = None
told_of_first m p s (x ∷ rest) = Some (step_take m p x s)

-- What is told of an event: what its node makes of it, or that a place is not there. None where nothing is on the way.
abbrev pub turn_told : Config → TimedFrameWorld → Event Action → Option (Result TimedTurn Refusal)
turn_told config w (Take i p) = cond (is_pair (length config) i p) (told_of_first (nodes_at config i) (name_at config p) (w.node i) (w.wire p i)) (Some (Err NoSuchPlace))
turn_told config w (Do i action) = Some (cond (is_place (length config) i) (step_act (nodes_at config i) (ports_at config i) action (w.node i)) (Err NoSuchPlace))

-- What came of an event in the world w: it happened, did what is reported, and led to a world that is shown; nothing was on the way;
-- memory ran out; or it was refused as is told.
abbrev pub CameOf : Config → TimedFrameWorld → Event Action → Result Stepped NodeFault → (TimedFrameWorld → Type 0) → Type 0
CameOf config w e (Ok (Happened effect)) Shown = (effect_in (frame_machine config) w e ≡ Some effect) × ((v : TimedFrameWorld) × (happens (frame_machine config) w e ≡ Some v) × Shown v)
CameOf config w e (Ok Nothing) Shown = turn_told config w e ≡ None
CameOf config w e (Ok stepped) Shown = ⊥
CameOf config w e (Err OutOfMemory) Shown = Unit {0}
CameOf config w e (Err (Refused refusal)) Shown = turn_told config w e ≡ Some (Err refusal)
CameOf config w e (Err fault) Shown = ⊥
