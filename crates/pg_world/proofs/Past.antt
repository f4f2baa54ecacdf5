-- What is on the way between two nodes of which some are lost, as bytes move, are sent, are taken and are cut off.
use Rattle.std.proofs.Common.{◌≡◌, ◌≢◌, ℕ, Bool, true, false, List, ◌∷◌, ◌++◌, Some, Ok, Err}
use Rattle.pg_world_packets.specs.PgFrame.Frames.{front_of, too_long}
use Rattle.pg_world_packets.specs.PgMessageTypes.declared.packet.Packet.{Packet}
use Rattle.pg_world_packets.specs.PgFrame.Pieces.{Bytes, ArePackets, AreShort, AreCut, FirstPacket, FirstOfCut}
use Rattle.pg_world_packets.specs.PgFrame.Pieces.{frames_of, ring_put, pull, put_out, piece_taken as bytes_taken}
use Rattle.pg_world.specs.Crossings.{written_of, IsOnWay}

-- ---- bytes move

-- from a node that is not lost
pub way_put : (count : ℕ) → ((packets : List Packet) (bytes : Bytes) → ArePackets written_of packets bytes → ArePackets written_of packets (ring_put count bytes))
    → (to from : Bool) → from ≡ false → (packets : List Packet) (bytes : Bytes) → IsOnWay to from packets bytes → IsOnWay to from packets (ring_put count bytes)
way_put count keeps true from stays packets bytes are = tt
way_put count keeps false true stays packets bytes are = absurd (cc)
way_put count keeps false false stays packets bytes are = keeps packets bytes are

pub way_pulled : (count : ℕ) → ((packets : List Packet) (bytes : Bytes) → ArePackets written_of packets bytes → ArePackets written_of packets (pull count bytes))
    → ((packets : List Packet) (bytes : Bytes) → AreCut written_of packets bytes → AreCut written_of packets (pull count bytes))
    → (to from : Bool) (packets : List Packet) (bytes : Bytes) → IsOnWay to from packets bytes → IsOnWay to from packets (pull count bytes)
way_pulled count keeps cut true from packets bytes are = tt
way_pulled count keeps cut false true packets bytes are = cut packets bytes are
way_pulled count keeps cut false false packets bytes are = keeps packets bytes are

-- ---- more is sent

abbrev pub Adds : Type 0
Adds = (packets others : List Packet) (bytes : Bytes) → ArePackets written_of packets bytes → ArePackets written_of (packets ++ others) (put_out (frames_of written_of others) bytes)

pub way_sent : Adds → (to from : Bool) → from ≡ false → (packets others : List Packet) (bytes : Bytes) → IsOnWay to from packets bytes
    → IsOnWay to from (packets ++ others) (put_out (frames_of written_of others) bytes)
way_sent adds true from stays packets others bytes are = tt
way_sent adds false true stays packets others bytes are = absurd (cc)
way_sent adds false false stays packets others bytes are = adds packets others bytes are

-- ---- the first is taken

-- A body is that of the first packet on the way, and once its frame is taken out the others are.
pub record FirstOnWay (from : Bool) (packets : List Packet) (bytes : Bytes) (body : List ℕ) : Type 0 where
  pub first : Packet
  pub others : List Packet
  pub are : packets ≡ first ∷ others
  pub is : body ≡ written_of first
  pub left : IsOnWay false from others (bytes_taken bytes)

-- what is read of bytes from a node that may be lost, by a node that is not
abbrev pub ReadsFirst : Type 0
ReadsFirst = (from : Bool) (packets : List Packet) (bytes : Bytes) (body : List ℕ) → AreShort written_of packets → IsOnWay false from packets bytes → front_of bytes.came ≡ Ok (Some body)
    → FirstOnWay from packets bytes body

abbrev pub ReadsLawful : Type 0
ReadsLawful = (from : Bool) (packets : List Packet) (bytes : Bytes) → AreShort written_of packets → IsOnWay false from packets bytes → front_of bytes.came ≢ Err too_long

pub reads_first : ((packets : List Packet) (bytes : Bytes) (body : List ℕ) → AreShort written_of packets → ArePackets written_of packets bytes → front_of bytes.came ≡ Ok (Some body) → FirstPacket written_of packets bytes body)
    → ((packets : List Packet) (bytes : Bytes) (body : List ℕ) → AreShort written_of packets → AreCut written_of packets bytes → front_of bytes.came ≡ Ok (Some body) → FirstOfCut written_of packets bytes body)
    → ReadsFirst
reads_first law cut false packets bytes body short are e = let h = law packets bytes body short are e in record { first = h.first; others = h.others; are = h.are; is = h.is; left = h.left }
reads_first law cut true packets bytes body short are e = let h = cut packets bytes body short are e in record { first = h.first; others = h.others; are = h.are; is = h.is; left = h.left }

pub reads_lawful : ((packets : List Packet) (bytes : Bytes) → AreShort written_of packets → ArePackets written_of packets bytes → front_of bytes.came ≢ Err too_long)
    → ((packets : List Packet) (bytes : Bytes) → AreShort written_of packets → AreCut written_of packets bytes → front_of bytes.came ≢ Err too_long) → ReadsLawful
reads_lawful law cut false packets bytes short are = law packets bytes short are
reads_lawful law cut true packets bytes short are = cut packets bytes short are
