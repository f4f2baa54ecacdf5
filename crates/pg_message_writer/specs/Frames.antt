-- What a writer of one packet does.
use Rattle.std.specs.Prelude.{◌≡◌, ℕ, ◌+◌, ◌≤◌, List, ◌++◌, length, true, false}
use Rattle.std.specs.Prelude.{Result, Ok, Err, IsOk, OnOk, OnErr, MatchResult}
use Rattle.bytes.specs.Filled.{Filled}
use Rattle.pg_message_types.specs.PgTermIo.Writing.{written}
use Rattle.pg_message_types.specs.declared.fault.MessageFault.{MessageFault}
use Rattle.pg_message_types.specs.declared.packet.Packet.{Packet}
use Rattle.pg_message_types.specs.Limits.{max_stamp}
use Rattle.pg_message_types.specs.Fault.{Gives}
use Rattle.pg_message_types.specs.Reading.{packet_spelled}
use Rattle.pg_message_types.specs.Writing.{term_of_packet, is_exchange, is_sayable, body_of, framed}
use Rattle.pg_message_writer.specs.Limits.{max_small_len}

-- the frame of a packet
abbrev pub frame_of : Packet → List ℕ
frame_of packet = framed (written (term_of_packet packet))

-- a packet is appended as one whole frame, or no byte changes
pub record AppendsFrame {T : Type 0} (packet : Packet) (old new : Filled) (result : Result T MessageFault) : Type 0 where
  pub ok : OnOk result (new.items ≡ old.items ++ frame_of packet)
  pub err : OnErr result (new.items ≡ old.items)
  -- it is appended only where it may be sent, and is refused by the fault of what may not, or as memory ran out
  pub told : Gives (λ done. written (term_of_packet packet)) result (body_of packet)
  pub unsendable : (fault : MessageFault) → body_of packet ≡ Err fault → result ≡ Err fault
  -- what is written is read as the packet
  pub read : OnOk result (packet_spelled (written (term_of_packet packet)) ≡ Ok packet)
  -- only room can be missing
  pub succeeds : IsOk (body_of packet) → length (frame_of packet) ≤ old.spare → IsOk result
  pub succeeds_small : is_sayable packet.message ≡ true → packet.stamp ≤ max_stamp → is_exchange packet.message ≡ false → 4 + max_small_len ≤ old.spare → IsOk result
  -- it takes no more room than the frame
  pub few : OnOk result (is_exchange packet.message ≡ false → length (frame_of packet) ≤ 4 + max_small_len)
  pub spare : MatchResult result (λ done. old.spare ≤ new.spare + length (frame_of packet)) (λ fault. old.spare ≤ new.spare)
