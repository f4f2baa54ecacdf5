use Rattle.std.proofs.Common.{get_or, refl, subst, sym, ◌∙◌}
use Rattle.std.proofs.lemmas.List.{get_or_default}
use Rattle.pg_talk.specs.Servings.{ServingGoes, Serves, view_of}
use Rattle.pg_talk.specs.declared.service.ending.Ending.TheVariants.{Lost}
use Rattle.pg_talk.proofs.Spoken.{answer_served, closed_served, unheard_served}
use Rattle.pg_talk.proofs.Turns.{on_ok, some_desk}
use Rattle.pg_talk.proofs.service.serving.Serving.hear.Goals as goal

pub returns-in_ok-reply-in-Some-clause-goes : goal.returns-in_ok-reply-in-Some-clause-goes
returns-in_ok-reply-in-Some-clause-goes g c =
    let self = c.args.self.now in
    let new = c.reply.new.self in
    let before = g.W.Sink.contents c.args.writer.now in
    let after = g.W.Sink.contents c.reply.new.writer in
    on_ok c.reply.result _ (ServingGoes self new before after) c.reply.ensures.replies
    (λ next. record {
      kept = next.kept;
      goes = λ given first inputs s. subst (λ view. Serves given first inputs view after) (sym next.view)
          (answer_served given first before inputs (view_of self) c.args.client next.desk c.requires.desk next.was s c.poll.new.self c.requires.client c.in-Some.ensures.only after c.in-Some.answer
          c.requires.asked c.in-Some.ensures.some c.in-Some.ensures.submitted (rw c.in_ok-reply-in-Some.ensures at next.wrote));
    })

pub returns-then-is_lost-clause-goes : goal.returns-then-is_lost-clause-goes
returns-then-is_lost-clause-goes g c =
    let self = c.args.self.now in
    let mid = record (view_of self) { running = c.poll.new.self } in
    let new = c.reply_ending.new.self in
    let before = g.W.Sink.contents c.args.writer.now in
    let after = g.W.Sink.contents c.reply_ending.new.writer in
    on_ok c.reply_ending.result _ (ServingGoes self new before after) c.reply_ending.ensures.replies
    (λ next. record {
      kept = next.kept;
      goes = λ given first inputs s. subst (λ view. Serves given first inputs view after) (sym next.view)
          (closed_served given first before inputs mid c.args.client next.desk c.requires.desk next.was
          (unheard_served given first before inputs (view_of self) c.args.client next.desk c.requires.desk next.was s c.poll.new.self c.requires.client c.in-None.ensures.only c.in-None.ensures.none
          c.in-None.ensures.submitted)
          after Lost c.requires.asked (sym c.requires.lost ∙ c.if-is_lost.true) next.wrote);
    })

pub returns-else-is_lost-clause-goes : goal.returns-else-is_lost-clause-goes
returns-else-is_lost-clause-goes g c = record {
  kept = refl;
  goes = λ given first inputs s.
      let self = c.args.self.now in
      let desk = get_or self.desks.items c.args.client (some_desk self.desks.items c.args.client c.requires.desk) in
      unheard_served given first (g.W.Sink.contents c.args.writer.now) inputs (view_of self) c.args.client desk c.requires.desk
      (get_or_default self.desks.items c.args.client (some_desk self.desks.items c.args.client c.requires.desk) desk c.requires.desk) s c.poll.new.self c.requires.client c.in-None.ensures.only
      c.in-None.ensures.none c.in-None.ensures.submitted;
}
