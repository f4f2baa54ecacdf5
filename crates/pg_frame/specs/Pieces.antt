-- Packets that cross as bytes in pieces. How a packet is written is any function from packets to bodies.
use Rattle.std.specs.Prelude.{◌≡◌, ◌≤◌, ℕ, List, ◌∷◌, ◌++◌, None, Ok, length, map, take, drop}
use Rattle.std.specs.List.{AllByRecursion, flat_map}
use Rattle.pg_frame.specs.Frames.{IsBody, frame, front_of, after_front}

-- The bytes on the way from one node to another.
pub record Bytes : Type 0 where
  -- written, and not put on the ring
  pub outbox : List ℕ
  -- put, and not pulled
  pub ring : List ℕ
  -- pulled, and not taken
  pub came : List ℕ

-- in the order in which they are taken
abbrev pub bytes_on_way : Bytes → List ℕ
bytes_on_way bytes = bytes.came ++ (bytes.ring ++ bytes.outbox)

-- the frames of packets, one behind the other
abbrev pub frames_of : {P : Type 0} → (P → List ℕ) → List P → List ℕ
frames_of write packets = flat_map (λ x. frame (write x)) packets

-- a frame can hold each of them
abbrev pub AreShort : {P : Type 0} → (P → List ℕ) → List P → Type 0
AreShort write packets = AllByRecursion (λ x. IsBody (write x)) packets

-- the bytes on the way are these packets
abbrev pub ArePackets : {P : Type 0} → (P → List ℕ) → List P → Bytes → Type 0
ArePackets write packets bytes = bytes_on_way bytes ≡ frames_of write packets

-- ---- what moves

-- the first bytes of the outbox go on the ring, so many at most
abbrev pub ring_put : ℕ → Bytes → Bytes
ring_put count bytes = record bytes { outbox = drop count bytes.outbox; ring = bytes.ring ++ take count bytes.outbox }

-- the first bytes of the ring come, so many at most
abbrev pub pull : ℕ → Bytes → Bytes
pull count bytes = record bytes { ring = drop count bytes.ring; came = bytes.came ++ take count bytes.ring }

-- more is written
abbrev pub put_out : List ℕ → Bytes → Bytes
put_out more bytes = record bytes { outbox = bytes.outbox ++ more }

-- the first whole frame that came is taken out
abbrev pub piece_taken : Bytes → Bytes
piece_taken bytes = record bytes { came = after_front bytes.came }

-- ---- what is read

-- A body is that of the first packet, and once its frame is taken out the others are on the way.
pub record FirstPacket {P : Type 0} (write : P → List ℕ) (packets : List P) (bytes : Bytes) (body : List ℕ) : Type 0 where
  pub first : P
  pub others : List P
  pub are : packets ≡ first ∷ others
  pub is : body ≡ write first
  pub left : ArePackets write others (piece_taken bytes)

-- Bodies are those of the first packets, and what follows is the frames of the others.
pub record FirstPackets {P : Type 0} (write : P → List ℕ) (packets : List P) (bodies : List (List ℕ)) (behind : List ℕ) : Type 0 where
  pub first : List P
  pub others : List P
  pub are : packets ≡ first ++ others
  pub is : bodies ≡ map write first
  pub left : behind ≡ frames_of write others

-- ---- bytes of a node that is lost

-- The bytes that came and those on the ring are these packets, and behind them a piece that is no whole frame. The outbox counts no more.
pub record AreCut {P : Type 0} (write : P → List ℕ) (packets : List P) (bytes : Bytes) : Type 0 where
  pub piece : List ℕ
  pub torn : front_of piece ≡ Ok None
  pub are : bytes.came ++ bytes.ring ≡ frames_of write packets ++ piece

-- The first so many of some packets are still on the way.
pub record StayWhole {P : Type 0} (write : P → List ℕ) (packets : List P) (bytes : Bytes) : Type 0 where
  pub count : ℕ
  pub few : count ≤ length packets
  pub left : AreCut write (take count packets) bytes

-- A body is that of the first of those packets, and once its frame is taken out the others are left.
pub record FirstOfCut {P : Type 0} (write : P → List ℕ) (packets : List P) (bytes : Bytes) (body : List ℕ) : Type 0 where
  pub first : P
  pub others : List P
  pub are : packets ≡ first ∷ others
  pub is : body ≡ write first
  pub left : AreCut write others (piece_taken bytes)
