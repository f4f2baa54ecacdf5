use Rattle.std.proofs.Common.{refl}
use Rattle.pg_talk.proofs.Turns.{replied_by}
use Rattle.pg_talk.proofs.service.serving.Serving.reply.Goals as goal

pub returns-clause-replies : goal.returns-clause-replies
returns-clause-replies g c =
    let x = c.index_mut.result.now in
    replied_by c.args.self.now _ c.args.client x c.reply-number.new.self c.index-desk.result.now c.reply-number.result c.args.reply (g.W.Sink.contents c.args.writer.now)
    (g.W.Sink.contents c.put_reply.new.writer) c.requires c.index_mut.ensures.value c.reply-number.ensures.number c.reply-number.ensures.rest c.index-desk.ensures refl refl
    (rw (c.name.ensures, c.port.ensures) at c.in_ok-put_reply.ensures.wrote)
