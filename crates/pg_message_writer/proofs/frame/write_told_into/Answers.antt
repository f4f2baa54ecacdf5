use Rattle.std.proofs.lemmas.Result.{err_from_is_err_and}
use Rattle.pg_message_types.specs.Writing.{body_of}
use Rattle.pg_message_writer.specs.Told.{packet_told}
use Rattle.pg_message_writer.proofs.Sent.{not_sent, has_body, sent_read}
use Rattle.pg_message_writer.proofs.frame.write_told_into.Goals as goal

pub returns-in_err-len-clause-told : goal.returns-in_err-len-clause-told
returns-in_err-len-clause-told c =
    let p = err_from_is_err_and c.from_residual.result c.from_residual.ensures.1 in
    rw (p.1, p.2) (not_sent (body_of (packet_told c.args.stamp c.args.told.now)) c.in_err-len.field-0.0 c.in_err-len.ensures.exact)

pub returns-clause-read : goal.returns-clause-read
returns-clause-read c =
    let packet = packet_told c.args.stamp c.args.told.now in
    sent_read packet (has_body (body_of packet) c.in_ok-len.len c.in_ok-len.ensures.exact) c.put_frame.ensures.spelled
