-- To which peers a frame goes, and which packets that are.
use Rattle.std.specs.Prelude.{◌≡◌, ℕ, Bool, true, false, drop, List, [], ◌∷◌, Result, Ok, Err}
use Rattle.pg_node_opens.specs.PgMessageTypes.declared.fault.MessageFault.{MessageFault}
use Rattle.pg_node_opens.specs.PgMessageTypes.declared.packet.Packet.{Packet}
use Rattle.pg_node_opens.specs.PgMessageTypes.Reading.{packet_spelled}
use Rattle.pg_node_sends.specs.declared.goes.Goes.{Goes}
use Rattle.pg_node_sends.specs.declared.goes.Goes.TheVariants.{Nobody, One, Marked}
use Rattle.pg_node_sends.specs.Frames.{IsFrame}
use Rattle.pg_node_sends.specs.Marked.{marks_of, sent_below}

-- a packet to each peer that it goes to
abbrev pub going : Goes → Packet → List (ℕ × Packet)
going Nobody packet = []
going (One peer) packet = (peer, packet) ∷ []
going (Marked places peers) packet = sent_below packet.stamp packet.message (marks_of places peers) peers

-- the same of a packet that was read; none where it was not
abbrev pub going_if : Goes → Result Packet MessageFault → List (ℕ × Packet)
going_if goes (Ok packet) = going goes packet
going_if goes (Err fault) = []

-- what is read of a frame
abbrev pub read_in : List ℕ → Result Packet MessageFault
read_in frame = packet_spelled (drop 4 frame)

-- the packet of a frame, to each peer that it goes to
abbrev pub going_framed : Goes → List ℕ → List (ℕ × Packet)
going_framed goes frame = going_if goes (read_in frame)

-- whether there is a frame that goes out
abbrev pub goes_out : Goes → Bool
goes_out Nobody = false
goes_out (One peer) = true
goes_out (Marked places peers) = true

-- if so, these bytes are that of a packet
abbrev pub HasFrame : Goes → List ℕ → Type 0
HasFrame goes bytes = goes_out goes ≡ true → (packet : Packet) × IsFrame bytes packet
