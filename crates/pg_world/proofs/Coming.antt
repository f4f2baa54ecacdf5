-- What came of an event over bytes where no node knows of a loss: a step of the proofs of what comes of one where nodes may be lost.
use Rattle.std.specs.Prelude.{◌≡◌, Bool, true, false, Some, Result, Ok, Err}
use Rattle.pg_world_packets.specs.PgStep.Machines.Machine.{Event, Take, Do, happens}
use Rattle.pg_world_packets.specs.PgStep.Config.{Config}
use Rattle.pg_world_packets.specs.PgStep.FrameMachine.{frame_machine}
use Rattle.pg_world_packets.specs.PgStep.Step.{Action}
use Rattle.pg_world_packets.specs.PgNodeState.declared.state.fault.NodeFault.{NodeFault}
use Rattle.pg_world_packets.specs.PgNodeState.declared.state.fault.NodeFault.TheVariants.{Refused, OutOfMemory}
use Rattle.pg_world_packets.specs.declared.step.Stepped.{Stepped}
use Rattle.pg_world_packets.specs.declared.step.Stepped.TheVariants.{Nothing, Happened}
use Rattle.pg_world_packets.specs.Effects.{effect_in}
use Rattle.pg_world_packets.specs.Worlds.{TimedFrameWorld}
use Rattle.pg_world_packets.proofs.Coming.{turn_told}

-- it takes a packet
abbrev pub is_take : Event Action → Bool
is_take (Take i p) = true
is_take (Do i action) = false

-- What came of an event in the world w: it happened, did what is reported, and led to a world that is shown; or no whole packet had
-- come, memory ran out, or it was refused as is told, and the world w is shown.
abbrev pub CameOverBytes : Config → TimedFrameWorld → Event Action → Result Stepped NodeFault → (TimedFrameWorld → Type 0) → Type 0
CameOverBytes config w e (Ok (Happened effect)) Shown = (effect_in (frame_machine config) w e ≡ Some effect) × ((v : TimedFrameWorld) × (happens (frame_machine config) w e ≡ Some v) × Shown v)
CameOverBytes config w e (Ok Nothing) Shown = (is_take e ≡ true) × Shown w
CameOverBytes config w e (Ok stepped) Shown = ⊥
CameOverBytes config w e (Err OutOfMemory) Shown = Shown w
CameOverBytes config w e (Err (Refused refusal)) Shown = (turn_told config w e ≡ Some (Err refusal)) × Shown w
CameOverBytes config w e (Err fault) Shown = ⊥
