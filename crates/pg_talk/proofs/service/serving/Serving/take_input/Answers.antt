use Rattle.std.proofs.Common.{[], ◌∷◌, ◌++◌, Some, None, refl, subst, sym}
use Rattle.std.specs.Prelude.{OnOk}
use Rattle.pg_node_requests.specs.declared.input.Input.TheVariants.{Bad, Broken, End}
use Rattle.pg_talk.specs.Servings.{Serves, ServesOne, view_of}
use Rattle.pg_talk.proofs.Passing.{passed_same}
use Rattle.pg_talk.proofs.Spoken.{bad_served, end_served}
use Rattle.pg_talk.proofs.Turns.{on_ok}
use Rattle.pg_talk.proofs.service.serving.Serving.take_input.Goals as goal

pub returns-in-Bad-clause-serves : goal.returns-in-Bad-clause-serves
returns-in-Bad-clause-serves g c =
    let self = c.args.self.now in
    let new = c.tell_bad.new.self in
    let before = g.W.Sink.contents c.args.writer.now in
    let after = g.W.Sink.contents c.tell_bad.new.writer in
    subst (λ input. OnOk c.tell_bad.result (ServesOne input self new before after)) (sym c.in-Bad.is)
    (on_ok c.tell_bad.result _ (ServesOne Bad self new before after) c.tell_bad.ensures.tells (λ bad. record {
      kept = bad.kept;
      takes = λ given first inputs s. subst (λ view. Serves given first (inputs ++ Bad ∷ []) view after) (sym bad.view)
          (bad_served given first before inputs (view_of self) s after Bad refl (λ i low. refl) bad.wrote);
    }))

pub returns-in-End-clause-serves : goal.returns-in-End-clause-serves
returns-in-End-clause-serves g c =
    let same = g.W.Sink.contents c.args.writer.now in record {
      kept = c.end_by.ensures.kept;
      takes = λ given first inputs s. subst (λ input. Serves given first (inputs ++ input ∷ []) (view_of c.end_by.new.self) same) (sym c.in-End.is)
          (subst (λ view. Serves given first (inputs ++ End ∷ []) view same) (sym c.end_by.ensures.view)
          (end_served given first same inputs (view_of c.args.self.now) s End None refl (λ i. refl)));
    }

pub returns-in-Broken-clause-serves : goal.returns-in-Broken-clause-serves
returns-in-Broken-clause-serves g c =
    let same = g.W.Sink.contents c.args.writer.now in
    let number = c.in-Broken.number in record {
      kept = c.end_by-in-Broken.ensures.kept;
      takes = λ given first inputs s. subst (λ input. Serves given first (inputs ++ input ∷ []) (view_of c.end_by-in-Broken.new.self) same) (sym c.in-Broken.is)
          (subst (λ view. Serves given first (inputs ++ Broken number ∷ []) view same) (sym c.end_by-in-Broken.ensures.view)
          (end_served given first same inputs (view_of c.args.self.now) s (Broken number) (Some number) refl (λ i. refl)));
    }

pub returns-in-End-clause-passed : goal.returns-in-End-clause-passed
returns-in-End-clause-passed g c = passed_same g.W.Sink.flushed c.args.self.now.outlet c.end_by.new.self.outlet c.args.writer.now c.end_by.ensures.outlet

pub returns-in-Broken-clause-passed : goal.returns-in-Broken-clause-passed
returns-in-Broken-clause-passed g c = passed_same g.W.Sink.flushed c.args.self.now.outlet c.end_by-in-Broken.new.self.outlet c.args.writer.now c.end_by-in-Broken.ensures.outlet
