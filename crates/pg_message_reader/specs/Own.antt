-- Replies to references of the node itself.
use Rattle.std.specs.Prelude.{ℕ, List}
use Rattle.pg_refs.specs.Numbered.{numbered}
use Rattle.pg_message_types.specs.declared.message.Message.TheVariants.{Reply}
use Rattle.pg_message_types.specs.declared.packet.Packet.{Packet}
use Rattle.pg_message_reader.specs.declared.own.OwnReply.{OwnReply}

-- the packet that such a reply is, to the node of this name
abbrev pub own_reply : List ℕ → OwnReply → Packet
own_reply own reply = record { stamp = reply.stamp; message = Reply (numbered own reply.number) reply.said }
