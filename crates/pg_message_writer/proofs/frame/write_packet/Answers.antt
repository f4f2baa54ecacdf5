use Rattle.std.proofs.Common.{ap, ◌∙◌, ◌++◌, List, ℕ, Ok}
use Rattle.std.proofs.lemmas.Result.{err_from_is_err_and}
use Rattle.pg_message_types.specs.PgTermIo.Writing.{written}
use Rattle.pg_message_types.specs.declared.packet.Packet.{Packet}
use Rattle.pg_message_types.specs.Reading.{packet_spelled}
use Rattle.pg_message_types.specs.Writing.{term_of_packet, body_of, length_of}
use Rattle.pg_message_writer.specs.Told.{packet_told}
use Rattle.pg_message_writer.proofs.Packets.{packet_is}
use Rattle.pg_message_writer.proofs.Sent.{not_sent, has_body, sent_read}
use Rattle.pg_message_writer.proofs.frame.write_packet.Goals as goal

pub returns-in_err-body_len-clause-told : goal.returns-in_err-body_len-clause-told
returns-in_err-body_len-clause-told c =
    let p = err_from_is_err_and c.from_residual.result c.from_residual.ensures.1 in
    let packet = c.args.packet.now in
    rw (p.1, p.2) (not_sent (body_of packet) c.in_err-body_len.field-0.0 (c.in_err-body_len.ensures.exact ∙ ap (λ (q : Packet). length_of (body_of q)) (packet_is packet c.of-told.result c.of-told.ensures)))

pub returns-clause-read : goal.returns-clause-read
returns-clause-read c =
    let packet = packet_told c.args.packet.now.stamp c.of-told.result in
    ap packet_spelled (c.in_ok-into_vec.ensures.ok ∙ c.put_body.ensures.items ∙ ap (λ (front : List ℕ). front ++ written (term_of_packet packet)) c.in_ok-out.ensures.items)
    ∙ sent_read packet (has_body (body_of packet) c.in_ok-body_len.body_len c.in_ok-body_len.ensures.exact) c.put_body.ensures.spelled
    ∙ ap Ok (packet_is c.args.packet.now c.of-told.result c.of-told.ensures)
