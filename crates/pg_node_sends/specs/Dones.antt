-- What an event did, by the form in which it sends.
use Rattle.std.specs.Prelude.{ℕ}
use Rattle.std.specs.Global.{Vec}
use Rattle.pg_node_opens.specs.PgMessageTypes.declared.packet.Packet.{Packet}
use Rattle.pg_node_sends.specs.declared.done.Done.{Done}
use Rattle.pg_node_sends.specs.declared.framed.Framed.{Framed}
use Rattle.pg_node_sends.specs.contracts.sends.VecTuple2UsizePacketOutgoing.TheImpl as packets
use Rattle.pg_node_sends.specs.contracts.framing.FramedOutgoing.TheImpl as frames

-- a list of packets
abbrev pub PacketsDone : Type 0
PacketsDone = Done (Vec (ℕ × Packet)) packets.ghosts

-- one frame
abbrev pub FramedDone : Type 0
FramedDone = Done Framed frames.ghosts
