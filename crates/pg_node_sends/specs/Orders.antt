-- The messages of what a node tells its peers.
use Rattle.std.specs.Prelude.{ℕ}
use Rattle.pg_term.specs.RefParts.{RefParts}
use Rattle.pg_node_opens.specs.PgMessageTypes.declared.message.Message.{Message}
use Rattle.pg_node_opens.specs.PgMessageTypes.declared.message.Message.TheVariants as messages
use Rattle.pg_node_opens.specs.PgMessageTypes.declared.message.Request.TheVariants as requests
use Rattle.pg_node_opens.specs.PgMessageTypes.declared.packet.Packet.{Packet}
use Rattle.pg_node_opens.specs.PgRefs.Numbered.{numbered}
use Rattle.pg_node_sends.specs.declared.orders.Numbered.{Numbered}
use Rattle.pg_node_sends.specs.declared.orders.Order.{Order}
use Rattle.pg_node_sends.specs.declared.orders.Order.TheVariants.{Lock, Free, Change, End, Reply}

-- the reference of a number
abbrev pub reference_in : Numbered → RefParts
reference_in reference = numbered reference.node.now reference.number

abbrev pub message_of : Order → Message
message_of (Lock name reference) = messages.Call (reference_in reference) (requests.SetLock name.now)
message_of (Free name reference) = messages.DelLock name.now (reference_in reference)
message_of (Change update reference) = messages.Call (reference_in reference) (requests.Change update.now)
message_of (End pid) = messages.Down pid.now
message_of (Reply reference said) = messages.Reply reference.now said

-- the packet that says it
abbrev pub ordered : ℕ → Order → Packet
ordered stamp order = record { stamp = stamp; message = message_of order }
