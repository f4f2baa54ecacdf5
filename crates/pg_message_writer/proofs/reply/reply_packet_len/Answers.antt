use Rattle.std.proofs.Common.{arith}
use Rattle.pg_message_types.specs.declared.message.Message.TheVariants.{Reply}
use Rattle.pg_message_writer.specs.Told.{reference_lent}
use Rattle.pg_message_writer.proofs.Bodies.{written_len}
use Rattle.pg_message_writer.proofs.reply.reply_packet_len.Goals as goal

pub returns-clause-value : goal.returns-clause-value
returns-clause-value c = omega (arith, written_len (record { stamp = c.args.stamp; message = Reply (reference_lent c.args.mark.now) c.args.said }), c.stamp_len.ensures.value, c.reply_len.ensures.len)
