-- Packets of messages that are lent.
use Rattle.std.proofs.Common.{◌≡◌, ap}
use Rattle.pg_message_types.specs.declared.message.Message.{Message}
use Rattle.pg_message_types.specs.declared.packet.Packet.{Packet}
use Rattle.pg_message_writer.specs.declared.told.Told.{Told}
use Rattle.pg_message_writer.specs.Told.{message_told, packet_told}

-- the packet whose message is lent
pub packet_is : (p : Packet) (t : Told) → message_told t ≡ p.message → packet_told p.stamp t ≡ p
packet_is p t e = ap (λ (m : Message). record { stamp = p.stamp; message = m }) e
