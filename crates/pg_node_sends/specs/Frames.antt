-- The frames of packets that a node sends.
use Rattle.std.specs.Prelude.{◌≡◌, ◌≤◌, ◌+◌, ℕ, nat_eq, cond, List, [], ◌∷◌, ◌++◌, length, Ok}
use Rattle.std.specs.List.{AllByRecursion}
use Rattle.pg_node_opens.specs.PgMessageTypes.declared.packet.Packet.{Packet}
use Rattle.pg_node_opens.specs.PgMessageTypes.Reading.{packet_spelled}
use Rattle.pg_node_opens.specs.PgMessageTypes.Writing.{term_of_packet}
use Rattle.pg_node_opens.specs.PgTermIo.Writing.{written}
use Rattle.pg_message_writer.specs.Frames.{frame_of}
use Rattle.pg_message_writer.specs.Limits.{max_small_len}

-- a small packet stands in a frame as it is: it is read there, and takes no more room than a small frame
pub record IsSmallFrame (packet : Packet) : Type 0 where
  pub read : packet_spelled (written (term_of_packet packet)) ≡ Ok packet
  pub small : length (frame_of packet) ≤ 4 + max_small_len

-- these bytes are the frame of a packet, a small one
pub record IsFrame (frame : List ℕ) (packet : Packet) : Type 0 where
  pub is : frame ≡ frame_of packet
  pub small : IsSmallFrame packet

-- the frame of a small packet is appended
pub record IsAppended (before after : List ℕ) (packet : Packet) : Type 0 where
  pub items : after ≡ before ++ frame_of packet
  pub small : IsSmallFrame packet

-- packets that go to places are small
abbrev pub AreSmallFrames : List (ℕ × Packet) → Type 0
AreSmallFrames sends = AllByRecursion (λ sent. IsSmallFrame sent.1) sends

-- the frames of the packets that go to a place
abbrev pub frames_to : List (ℕ × Packet) → ℕ → List ℕ
frames_to [] place = []
frames_to (sent ∷ others) place = cond (nat_eq sent.0 place) (frame_of sent.1) [] ++ frames_to others place
