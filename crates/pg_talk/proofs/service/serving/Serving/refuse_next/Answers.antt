use Rattle.std.proofs.Common.{refl, subst, sym, ◌∙◌}
use Rattle.pg_talk.specs.Servings.{ServingGoes, Serves, view_of}
use Rattle.pg_talk.proofs.Spoken.{looked_served, refusal_served}
use Rattle.pg_talk.proofs.Turns.{on_ok}
use Rattle.pg_talk.proofs.service.serving.Serving.refuse_next.Goals as goal

pub returns-in-Some-clause-goes : goal.returns-in-Some-clause-goes
returns-in-Some-clause-goes g c =
    let self = c.args.self.now in
    let new = c.reply_ending.new.self in
    let before = g.W.Sink.contents c.args.writer.now in
    let after = g.W.Sink.contents c.reply_ending.new.writer in
    on_ok c.reply_ending.result _ (ServingGoes self new before after) c.reply_ending.ensures.replies
    (λ next. record {
      kept = next.kept;
      goes = λ given first inputs s. subst (λ view. Serves given first inputs view after) (sym next.view)
          (refusal_served given first before inputs (view_of self) c.args.client c.index_mut.result.now c.requires.desk c.index_mut.ensures.value s after c.args.ending c.next.new.self next.desk c.in-Some.command
          c.in-Some.ensures.some c.in-Some.ensures.same next.was c.requires.idle c.requires.due next.wrote);
    })

pub returns-in-None-clause-goes : goal.returns-in-None-clause-goes
returns-in-None-clause-goes g c = record {
  kept = refl;
  goes = λ given first inputs s.
      let none = c.in-None.ensures.none in
      looked_served given first (g.W.Sink.contents c.args.writer.now) inputs (view_of c.args.self.now) c.args.client c.index_mut.result.now c.requires.desk c.index_mut.ensures.value s c.next.new.self
      (none.1 ∙ sym none.0) c.in-None.ensures.same;
}
