use Rattle.std.proofs.Common.{◌≤◌, refl, ap, length, arith}
use Rattle.std.specs.Result.{is_ok}
use Rattle.pg_message_types.specs.PgTermIo.Writing.{written}
use Rattle.pg_message_types.specs.declared.message.Message.TheVariants.{Reply}
use Rattle.pg_message_types.specs.declared.packet.Packet.{Packet}
use Rattle.pg_message_types.specs.Writing.{term_of_packet}
use Rattle.pg_message_writer.proofs.Bodies.{short}
use Rattle.pg_message_writer.proofs.Sent.{sent_read}
use Rattle.pg_message_writer.proofs.reply.write_reply_into.Goals as goal

pub returns-clause-read : goal.returns-clause-read
returns-clause-read c =
    let packet : Packet = record { stamp = c.args.stamp; message = Reply c.args.reference.now c.args.said } in
    let few : length (written (term_of_packet packet)) ≤ 16777216 = omega (arith, c.reply_packet_len-len.ensures.value, c.reply_packet_len-len.ensures.few) in
    sent_read packet (ap is_ok (short packet refl c.requires few)) c.put_frame.ensures.spelled
