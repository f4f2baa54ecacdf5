use Rattle.std.proofs.Common.{arith, [], ◌∷◌, ◌++◌, refl, subst, sym}
use Rattle.pg_node_requests.specs.declared.input.Input.TheVariants.{Ask}
use Rattle.pg_talk.specs.Servings.{Serves, ServesOne, view_of}
use Rattle.pg_talk.proofs.Spoken.{request_served, request_to_nobody}
use Rattle.pg_talk.proofs.Turns.{on_ok}
use Rattle.pg_talk.proofs.service.serving.Serving.take_request.Goals as goal

pub returns-then-client-len-clause-serves : goal.returns-then-client-len-clause-serves
returns-then-client-len-clause-serves g c =
    let self = c.args.self.now in
    let new = c.tell_bad.new.self in
    let before = g.W.Sink.contents c.args.writer.now in
    let after = g.W.Sink.contents c.tell_bad.new.writer in
    on_ok c.tell_bad.result _ (ServesOne (Ask c.args.client c.args.command) self new before after) c.tell_bad.ensures.tells
    (λ bad. record {
      kept = bad.kept;
      takes = λ given first inputs s. subst (λ view. Serves given first (inputs ++ Ask c.args.client c.args.command ∷ []) view after) (sym bad.view)
          (request_to_nobody given first before inputs (view_of self) s after c.args.client c.args.command (omega (arith, c.if-client-len.true, c.len.ensures)) bad.wrote);
    })

pub returns-in-Ok-clause-serves : goal.returns-in-Ok-clause-serves
returns-in-Ok-clause-serves g c = record {
  kept = refl;
  takes = λ given first inputs s.
      request_served given first (g.W.Sink.contents c.args.writer.now) inputs (view_of c.args.self.now) c.args.client c.index_mut.result.now (omega (arith, c.if-client-len.false, c.len.ensures))
      c.index_mut.ensures.value s c.wait.new.self c.args.command c.saturating_add-self.result c.saturating_add-self.ensures c.in-Ok.ensures.ok c.in-Ok.ensures.same;
}
