use Rattle.std.proofs.Common.{[], ◌∷◌, ◌++◌, ap, subst, sym}
use Rattle.std.specs.Prelude.{Err}
use Rattle.pg_node_requests.specs.declared.input.Input.TheVariants.{Lose}
use Rattle.pg_cluster.specs.Running.{losses_in}
use Rattle.pg_talk.specs.Servings.{Serves, ServesOne, view_of}
use Rattle.pg_talk.proofs.Spoken.{loss_of_nobody, node_loss_served, nodes_there}
use Rattle.pg_talk.proofs.Turns.{not_lost_before, on_ok, was_lost}
use Rattle.pg_talk.proofs.service.serving.Serving.lose.Goals as goal

pub returns-in-Ok-clause-serves : goal.returns-in-Ok-clause-serves
returns-in-Ok-clause-serves g c =
    let self = c.args.self.now in
    let node = c.args.node in
    let new = c.tell_lost.new.self in
    let before = g.W.Sink.contents c.args.writer.now in
    let after = g.W.Sink.contents c.tell_lost.new.writer in
    let there = not_lost_before (losses_in self.running) node (λ far. absurd (cc (c.in-Ok.ensures.place.1 far))) (λ lost. absurd (cc (c.in-Ok.ensures.again.1 lost))) in
    on_ok c.tell_lost.result _ (ServesOne (Lose node) self new before after) c.tell_lost.ensures.loses
    (λ loses. record {
      kept = c.tell_lost.ensures.kept;
      takes = λ given first inputs s.
          let low = nodes_there given first before inputs (view_of self) s node there in
          let told = loses low in
          subst (λ view. Serves given first (inputs ++ Lose node ∷ []) view after) (sym told.view)
          (node_loss_served given first before inputs (view_of self) s after c.lose.new.self node told.served c.in-Ok.ensures.clients c.in-Ok.ensures.config c.in-Ok.ensures.threads c.in-Ok.ensures.lost there told.was low
          told.wrote);
    })

pub returns-in-Err-clause-serves : goal.returns-in-Err-clause-serves
returns-in-Err-clause-serves g c =
    let self = c.args.self.now in
    let node = c.args.node in
    let new = c.tell_bad.new.self in
    let before = g.W.Sink.contents c.args.writer.now in
    let after = g.W.Sink.contents c.tell_bad.new.writer in
    let gone = was_lost (losses_in self.running) node c.in-Err.field-0 c.in-Err.ensures.fault (λ e. c.in-Err.ensures.place.0 (ap Err e)) (λ e. c.in-Err.ensures.again.0 (ap Err e)) in
    on_ok c.tell_bad.result _ (ServesOne (Lose node) self new before after) c.tell_bad.ensures.tells
    (λ bad. record {
      kept = bad.kept;
      takes = λ given first inputs s. subst (λ view. Serves given first (inputs ++ Lose node ∷ []) view after) (sym bad.view)
          (loss_of_nobody given first before inputs (view_of self) s after c.lose.new.self node c.in-Err.ensures.err gone bad.wrote);
    })
