use Rattle.std.proofs.Common.{◌<◌, ◌∙◌, arith, length, refl, subst, sym, true}
use Rattle.pg_talk.specs.Servings.{Serves, desks_of, view_of}
use Rattle.pg_talk.specs.declared.service.ending.Ending.TheVariants.{Open}
use Rattle.pg_talk.proofs.Spoken.{closed_served}
use Rattle.pg_talk.proofs.Turns.{asked_here}
use Rattle.pg_talk.proofs.service.serving.Serving.give_up.Goals as goal

pub returns-clause-goes : goal.returns-clause-goes
returns-clause-goes g c =
    let self = c.args.self.now in
    let before = g.W.Sink.contents c.args.writer.now in
    let after = g.W.Sink.contents c.reply_ending.new.writer in
    let low : c.args.client < length (desks_of self) = omega (arith, c.if-client-len.false, c.len.ensures) in
    let next = c.in_ok-reply_ending.ensures.replies in record {
      kept = next.kept;
      goes = λ given first inputs s. subst (λ view. Serves given first inputs view after) (sym next.view)
          (closed_served given first before inputs (view_of self) c.args.client next.desk low next.was s after Open
          (asked_here self c.args.client c.index.result.now true low c.index.ensures (sym c.is_asked.ensures ∙ c.if-not-is_asked.false)) (c.requires, refl) next.wrote);
    }
