use Rattle.std.proofs.Common.{Ok, refl, ap}
use Rattle.pg_term.specs.RefParts.{RefParts}
use Rattle.pg_node_opens.specs.PgMessageTypes.declared.message.Message.TheVariants as messages
use Rattle.pg_node_opens.specs.PgMessageTypes.declared.packet.Packet.{Packet}
use Rattle.pg_message_writer.specs.Told.{reference_lent, asked_for}
use Rattle.pg_node_sends.specs.Orders.{reference_in}
use Rattle.pg_node_sends.proofs.FrameLaws.{appended}
use Rattle.pg_node_sends.proofs.framing.append_call.Goals as goal

pub returns-in-Ok : goal.returns-in-Ok
returns-in-Ok c =
    let packet : RefParts → Packet = λ reference. record { stamp = c.args.stamp; message = messages.Call reference (asked_for c.args.asked) } in
    appended (Ok c.in-Ok.field-0) c.args.out.now c.write_call_into.new.out (packet (reference_lent c.lent.result)) (packet (reference_in c.args.reference)) (ap packet c.lent.ensures) refl c.in-Ok.ensures
