-- What an event of a node changes, where it is refused.
use Rattle.std.proofs.Common.{◌≡◌, ℕ, Bool, true, false, not, if◌then◌else◌, List, Option, Some, None, Result, Ok, Err, refl, ap}
use Rattle.pg_world_packets.specs.PgFrame.declared.fault.TooLong.{TooLong}
use Rattle.pg_world_packets.specs.PgFrame.Frames.{front_of}
use Rattle.pg_world_packets.specs.PgMessageTypes.declared.fault.MessageFault.{MessageFault}
use Rattle.pg_world_packets.specs.PgMessageTypes.declared.packet.Packet.{Packet}
use Rattle.pg_world_packets.specs.PgMessageTypes.Reading.{packet_spelled}
use Rattle.pg_world_packets.specs.PgStep.declared.refusal.Refusal.{Refusal}
use Rattle.pg_world_packets.specs.PgStep.declared.refusal.Refusal.TheVariants.{NodeLost}
use Rattle.pg_world_packets.specs.PgNodeState.declared.state.fault.NodeFault.{NodeFault}
use Rattle.pg_world_packets.specs.PgNodeState.declared.state.fault.NodeFault.TheVariants.{Refused, OutOfMemory, Message as BadMessage}
use Rattle.pg_world_packets.specs.PgNodeState.declared.state.fault.NodeFault.TheVariants.{TooLong as FrameTooLong, Damaged}
use Rattle.pg_node.specs.Bytes.{ReadsNext, packet_at, packet_in}
use Rattle.pg_node.specs.Links.{Link}
use Rattle.pg_node.specs.Nodes.{read_next}
use Rattle.pg_world_packets.specs.declared.step.FrameStep.{FrameStep}
use Rattle.pg_world_packets.specs.declared.step.FrameStep.TheVariants as frames
use Rattle.pg_world_packets.specs.Losing.{is_told_first}
use Rattle.pg_world.specs.Changes.{HasPacket, TakeChanges, FrameChanges}
use Rattle.pg_world.specs.Crossings.{Crossing}

pub spared : (b : Bool) → not b ≡ true → b ≡ false
spared true e = absurd (cc)
spared false e = refl

clash : (b : Bool) → b ≡ true → b ≡ false → ⊥
clash true e f = cc
clash false e f = cc

-- by a place or a loss, before anything is looked at
pub barred_changes : (crossing : Crossing) (step : FrameStep) (refusal : Refusal) → is_told_first (Some refusal) ≡ true → FrameChanges crossing crossing step (Err (Refused refusal))
barred_changes crossing (frames.Take i p) refusal first = (λ late. absurd (clash (is_told_first (Some refusal)) first late), refl)
barred_changes crossing (frames.Command i port command) refusal first = refl
barred_changes crossing (frames.Retry i op) refusal first = refl
barred_changes crossing (frames.SeeLoss i p) refusal first = refl
barred_changes crossing (frames.Lose i keep) refusal first = refl

module _ (old new : Crossing) (i p : ℕ) (same : new ≡ old) where
  -- a packet that has come
  pub held_changes : (fault : NodeFault) → HasPacket old i p → TakeChanges old new i p (Err fault)
  held_changes OutOfMemory has = same
  held_changes (Refused refusal) has = (λ late. has, same)
  held_changes (BadMessage fault) has = same
  held_changes FrameTooLong has = same
  held_changes Damaged has = same

  -- what can't be read
  pub unread_changes : (seen : Bool) (link : Link) (fault : NodeFault) → ReadsNext (read_next seen link) (Err fault) → TakeChanges old new i p (Err fault)
  unread_changes seen link OutOfMemory told = same
  unread_changes seen link (Refused refusal) told = (λ late. absurd (clash (is_told_first (Some refusal)) (first seen told) late), same)
    where
      in_body : (q : Result Packet MessageFault) → ReadsNext (packet_in q) (Err (Refused refusal)) → ⊥
      in_body (Ok packet) is = cc
      in_body (Err fault) is = cc

      at_front : (front : Result (Option (List ℕ)) TooLong) → ReadsNext (packet_at front) (Err (Refused refusal)) → ⊥
      at_front (Ok (Some body)) is = in_body (packet_spelled body) is
      at_front (Ok None) is = cc
      at_front (Err fault) is = cc

      in_link : (damaged : Bool) → ReadsNext (if damaged then Err Damaged else packet_at (front_of link.unread)) (Err (Refused refusal)) → ⊥
      in_link true is = cc
      in_link false is = at_front (front_of link.unread) is

      first : (lost : Bool) → ReadsNext (read_next lost link) (Err (Refused refusal)) → is_told_first (Some refusal) ≡ true
      first true is = let one : refusal ≡ NodeLost = cc in ap (λ r. is_told_first (Some r)) one
      first false is = absurd (in_link link.damaged is)
  unread_changes seen link (BadMessage fault) told = same
  unread_changes seen link FrameTooLong told = same
  unread_changes seen link Damaged told = same
