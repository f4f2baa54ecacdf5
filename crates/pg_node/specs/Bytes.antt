-- What a node takes of the bytes that came in.
use Rattle.std.specs.Prelude.{◌≡◌, Bool, true, false, ◌||◌, ◌&&◌, not, ℕ, if◌then◌else◌}
use Rattle.std.specs.Prelude.{List, [], Option, Some, None, Result, Ok, Err}
use Rattle.pg_node_state.specs.PgFrame.declared.fault.TooLong as frame
use Rattle.pg_node_state.specs.PgFrame.Frames.{front_of, after_front}
use Rattle.pg_node_state.specs.PgMessageTypes.declared.fault.MessageFault.{MessageFault}
use Rattle.pg_node_state.specs.PgMessageTypes.declared.packet.Packet.{Packet}
use Rattle.pg_node_state.specs.PgMessageTypes.Reading.{packet_spelled}
use Rattle.pg_node_state.specs.PgStep.declared.refusal.Refusal.TheVariants.{NotAMessage}
use Rattle.pg_node_state.specs.declared.state.fault.NodeFault.{NodeFault}
use Rattle.pg_node_state.specs.declared.state.fault.NodeFault.TheVariants.{Refused, OutOfMemory}
use Rattle.pg_node_state.specs.declared.state.fault.NodeFault.TheVariants.{Damaged, TooLong, Message}
use Rattle.pg_message_reader.specs.Names.{NeedsNames}
use Rattle.pg_node.specs.Links.{Link}

-- the packet that a body spells
abbrev pub packet_in : Result Packet MessageFault → Result (Option Packet) NodeFault
packet_in (Ok packet) = Ok (Some packet)
packet_in (Err fault) = Err (Message fault)

-- the same of the front of a stream
abbrev pub packet_at : Result (Option (List ℕ)) frame.TooLong → Result (Option Packet) NodeFault
packet_at (Ok (Some body)) = packet_in (packet_spelled body)
packet_at (Ok None) = Ok None
packet_at (Err fault) = Err TooLong

-- the next packet of a link, `None` where no whole frame is there
abbrev pub next_packet : Link → Result (Option Packet) NodeFault
next_packet link = if link.damaged then Err Damaged else packet_at (front_of link.unread)

-- An answer is what is told; or memory ran out where a packet or a fault of it is told. (Where the fault is seen without memory it is
-- told: `IsSeenBroken`.)
abbrev pub ReadsNext : Result (Option Packet) NodeFault → Result (Option Packet) NodeFault → Type 0
ReadsNext (Ok (Some packet)) (Err OutOfMemory) = Unit {0}
ReadsNext (Err (Message fault)) (Err OutOfMemory) = Unit {0}
ReadsNext told result = result ≡ told

-- The body of the next frame is no packet, by this fault, which is seen whatever memory there is.
pub record IsSeenBroken (link : Link) (fault : MessageFault) : Type 0 where
  pub healthy : link.damaged ≡ false
  pub body : List ℕ
  pub front : front_of link.unread ≡ Ok (Some body)
  pub spelled : packet_spelled body ≡ Err fault
  pub plain : NeedsNames body → ⊥

-- whether a fault of what came in damages the link for good
abbrev pub damages : NodeFault → Bool
damages (Message fault) = true
damages TooLong = true
damages (Refused NotAMessage) = true
damages fault = false

-- a link of which this fault was told
abbrev pub marked : Link → NodeFault → Link
marked link fault = record link { damaged = damages fault || link.damaged }

-- a link of which the first whole frame was taken out
abbrev pub passed : Link → Link
passed link = record link { unread = after_front link.unread }

-- a link where nothing goes out any more
abbrev pub closed : Link → Link
closed link = record link { outbox = [] }

abbrev pub has_frame : Result (Option (List ℕ)) frame.TooLong → Bool
has_frame (Ok (Some body)) = true
has_frame front = false

-- nothing is left to be taken
abbrev pub is_drained : Link → Bool
is_drained link = link.damaged || not (has_frame (front_of link.unread))

abbrev pub is_none : Result (Option (List ℕ)) frame.TooLong → Bool
is_none (Ok None) = true
is_none front = false

-- nothing is there to be read yet
abbrev pub is_idle : Link → Bool
is_idle link = not link.damaged && is_none (front_of link.unread)
