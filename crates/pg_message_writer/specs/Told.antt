-- The messages that are lent.
use Rattle.std.specs.Prelude.{ℕ}
use Rattle.pg_term.specs.RefParts.{RefParts}
use Rattle.pg_message_types.specs.declared.message.Message.{Message}
use Rattle.pg_message_types.specs.declared.message.Message.TheVariants as messages
use Rattle.pg_message_types.specs.declared.message.Request.{Request}
use Rattle.pg_message_types.specs.declared.message.Request.TheVariants as requests
use Rattle.pg_message_types.specs.declared.packet.Packet.{Packet}
use Rattle.pg_message_writer.specs.declared.told.Asked.{Asked}
use Rattle.pg_message_writer.specs.declared.told.Asked.TheVariants.{SetLock, Change}
use Rattle.pg_message_writer.specs.declared.told.Mark.{Mark}
use Rattle.pg_message_writer.specs.declared.told.Mark.TheVariants.{Whole, Parts}
use Rattle.pg_message_writer.specs.declared.told.Told.{Told}
use Rattle.pg_message_writer.specs.declared.told.Told.TheVariants.{Call, Reply, DelLock, Exchange, Down}

-- the reference that a mark lends
abbrev pub reference_lent : Mark → RefParts
reference_lent (Whole reference) = reference.now
reference_lent (Parts node creation words) = record { node = node.now; creation = creation; words = words }

-- the request that is lent
abbrev pub asked_for : Asked → Request
asked_for (SetLock name) = requests.SetLock name.now
asked_for (Change update) = requests.Change update.now

-- the message that is lent
abbrev pub message_told : Told → Message
message_told (Call mark asked) = messages.Call (reference_lent mark) (asked_for asked)
message_told (Reply mark said) = messages.Reply (reference_lent mark) said
message_told (DelLock name mark) = messages.DelLock name.now (reference_lent mark)
message_told (Exchange node groups) = messages.Exchange node.now groups.now
message_told (Down pid) = messages.Down pid.now

-- the packet of a stamp and of what is told
abbrev pub packet_told : ℕ → Told → Packet
packet_told stamp told = record { stamp = stamp; message = message_told told }
