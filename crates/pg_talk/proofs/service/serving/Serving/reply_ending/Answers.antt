use Rattle.std.proofs.Common.{ap, ◌∙◌}
use Rattle.pg_talk.specs.Servings.{RepliesEnding, RepliesNext}
use Rattle.pg_talk.specs.Written.{ending_term}
use Rattle.pg_talk.proofs.Turns.{ending_by, on_ok}
use Rattle.pg_talk.proofs.service.serving.Serving.reply_ending.Goals as goal

pub returns-clause-replies : goal.returns-clause-replies
returns-clause-replies g c =
    let self = c.args.self.now in
    let one = c.args.ending in
    let before = g.W.Sink.contents c.args.writer.now in
    let after = g.W.Sink.contents c.reply.new.writer in
    on_ok c.reply.result (RepliesNext c.args.client c.in_ok-reply.reply self c.reply.new.self before after) (RepliesEnding c.args.client one self c.reply.new.self before after) c.reply.ensures.replies
    (λ next. ending_by self c.reply.new.self c.args.client c.index.result.now one c.in_ok-reply.reply before after c.requires c.index.ensures
    (c.in_ok-reply.ensures ∙ ap (λ name. ending_term name one) c.name.ensures) next)
