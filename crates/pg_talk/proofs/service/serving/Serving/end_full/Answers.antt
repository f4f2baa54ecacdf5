use Rattle.std.proofs.Common.{◌≡◌, [], ◌∷◌, ◌++◌, true, Some, ap, refl, subst, sym, ◌∙◌, append-nil}
use Rattle.pg_node_requests.specs.declared.input.Input.TheVariants.{Broken}
use Rattle.pg_cluster.specs.PgRing.Slots.{taken}
use Rattle.pg_talk.specs.Servings.{EndsFull, Serves, ServingGoes, kept_in, view_of}
use Rattle.pg_talk.specs.Written.{is_full_end}
use Rattle.pg_talk.proofs.Passing.{passed_same}
use Rattle.pg_talk.proofs.Spoken.{end_served, full_at_last}
use Rattle.pg_talk.proofs.Turns.{on_ok}
use Rattle.pg_talk.proofs.service.serving.Serving.end_full.Goals as goal

pub close_desks-requires : goal.close_desks-requires
close_desks-requires g c = ap (λ view. is_full_end view.over) c.end_by.ensures.view ∙ full_at_last c.take_rest.new.self.end

pub returns-clause-full : goal.returns-clause-full
returns-clause-full g c =
    let self = c.args.self.now in
    let new = c.close_desks.new.self in
    let came = taken c.args.inlet.now in
    let came2 = taken c.take_rest.new.inlet in
    let before = g.W.Sink.contents c.args.writer.now in
    let now = g.W.Sink.contents c.take_rest.new.writer in
    let after = g.W.Sink.contents c.close_desks.new.writer in
    on_ok c.close_desks.result (ServingGoes c.end_by.new.self new now after) (EndsFull self new came came2 before after) c.close_desks.ensures.goes
    (λ goes given first s.
    let all = c.in_ok-take_rest.ensures.advances given first s in
    let none = c.in_ok-take_rest.ensures.kept in
    let whole = all.whole ∙ (ap (λ kept. all.inputs ++ kept_in kept) none ∙ append-nil all.inputs) in record {
      kept = goes.kept ∙ c.end_by.ensures.kept ∙ none;
      serves = subst (λ inputs. Serves given first (inputs ++ Broken 30 ∷ []) (view_of new) after) (sym whole)
          (goes.goes given first (all.inputs ++ Broken 30 ∷ [])
          (subst (λ view. Serves given first (all.inputs ++ Broken 30 ∷ []) view now) (sym c.end_by.ensures.view)
          (end_served given first now all.inputs (view_of c.take_rest.new.self) all.serves (Broken 30) (Some 30) refl (λ i. refl))));
    })

pub returns-clause-over : goal.returns-clause-over
returns-clause-over g c =
    on_ok c.close_desks.result _ (is_full_end c.close_desks.new.self.end ≡ true) c.close_desks.ensures.idle
    (λ idle. ap is_full_end c.close_desks.ensures.end ∙ ap (λ view. is_full_end view.over) c.end_by.ensures.view ∙ full_at_last c.take_rest.new.self.end)

pub returns-clause-passed : goal.returns-clause-passed
returns-clause-passed g c =
    on_ok c.close_desks.result _ _ c.close_desks.ensures.passed
    (λ passed first h. passed first (passed_same g.W.Sink.flushed c.take_rest.new.self.outlet c.end_by.new.self.outlet c.take_rest.new.writer c.end_by.ensures.outlet first (c.in_ok-take_rest.ensures.passed first h)))
