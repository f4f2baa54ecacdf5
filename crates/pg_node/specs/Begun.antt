-- How a node over bytes begins.
use Rattle.std.specs.Prelude.{◌≡◌, ◌<◌, ℕ, List, Result, Ok, Err}
use Rattle.pg_node_state.specs.PgGroup.Table.{Table}
use Rattle.pg_node_state.specs.PgMessageTypes.declared.fault.MessageFault.{MessageFault}
use Rattle.pg_node_state.specs.PgMessageTypes.declared.packet.Packet.{Packet}
use Rattle.pg_node_state.specs.PgMessageTypes.Reading.{packet_spelled}
use Rattle.pg_node_state.specs.PgMessageTypes.Writing.{body_of, term_of_packet}
use Rattle.pg_node_state.specs.PgTermIo.Writing.{written}
use Rattle.pg_node_state.specs.PgStep.Nodes.{Node}
use Rattle.pg_node_state.specs.declared.state.fault.NodeFault.{NodeFault}
use Rattle.pg_node_state.specs.declared.state.fault.NodeFault.TheVariants.{OutOfMemory, Message}
use Rattle.pg_node_state.specs.PgMessageWriter.Frames.{frame_of}
use Rattle.pg_node.specs.Links.{Link, idle_link, with_more}
use Rattle.pg_node_state.specs.PgNodeSends.Opening.{IsAnnouncement}

-- nothing came in, and the frame of a packet goes out, where it is read as it is
pub record IsOpened (packet : Packet) (link : Link) : Type 0 where
  pub is : link ≡ with_more idle_link (frame_of packet)
  pub body : body_of packet ≡ Ok (written (term_of_packet packet))
  pub read : packet_spelled (written (term_of_packet packet)) ≡ Ok packet

-- What a node tells can be written, and its frame goes out to each of so many peers.
pub record BeginsWith (table : Table) (own : Node) (peers : ℕ) (links : ℕ → Link) (packet : Packet) : Type 0 where
  pub tells : IsAnnouncement table own packet
  pub body : body_of packet ≡ Ok (written (term_of_packet packet))
  pub each : (place : ℕ) → place < peers → IsOpened packet (links place)

-- the frame that tells the groups of a table goes out to each of so many peers
abbrev pub BeginsLinked : Table → Node → ℕ → (ℕ → Link) → Type 0
BeginsLinked table own peers links = (packet : Packet) × BeginsWith table own peers links packet

-- what is told where a packet does not go out: why it can't be written, whatever memory there is; else that memory ran out
abbrev pub unsent : Result (List ℕ) MessageFault → NodeFault
unsent (Ok body) = OutOfMemory
unsent (Err fault) = Message fault

-- what is told where what tells the groups of a table does not go out
abbrev pub CantBegin : Table → Node → NodeFault → Type 0
CantBegin table own fault = (packet : Packet) × IsAnnouncement table own packet × (fault ≡ unsent (body_of packet))
