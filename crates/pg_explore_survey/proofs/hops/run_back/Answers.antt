use Rattle.std.proofs.Common.{◌≡◌, List, length, reverse, ap, sym, subst, ◌∙◌}
use Rattle.std.proofs.lemmas.List.{reverse-reverse}
use Rattle.pg_explore_survey.specs.declared.hops.Stride.{Stride}
use Rattle.pg_explore_survey.specs.Runs.{AreBack, IsRunTo, IsWayBack}
use Rattle.pg_explore_tally.proofs.Walking.{slice_left}
use Rattle.pg_explore_survey.proofs.Backing.{back_end, back_push}
use Rattle.pg_explore_survey.proofs.hops.run_back.Goals as goal

pub returns-in-None : goal.returns-in-None
returns-in-None c =
    let mets = c.args.mets.now in
    let old = c.loop.strides in
    let new = c.reverse.new.self in
    let is : new ≡ reverse old.items = c.reverse.ensures.after ∙ ap (λ (xs : List Stride). reverse xs) c.as_mut_slice.ensures.value in
    let all = slice_left old.len new old.items old.ok.0 (c.reverse.ensures.len ∙ ap length c.as_mut_slice.ensures.value) ∙ is in
    subst (λ (xs : List Stride). IsRunTo mets c.args.place xs) (sym all)
    (subst (λ (xs : List Stride). IsWayBack mets c.args.place xs) (sym (reverse-reverse old.items))
    (back_end mets c.args.place old.items c.loop.reached c.loop.invariant (sym c.in_ok-stride.ensures ∙ c.in-None.is)))

pub loop-preserved : goal.loop-preserved
loop-preserved c =
    let mets = c.args.mets.now in
    subst (λ (xs : List Stride). AreBack mets c.args.place xs c.in-Some.stride.place) (sym c.in_ok-push-in-Some.ensures.items)
    (back_push mets c.args.place c.loop.strides.items c.loop.reached c.in-Some.stride c.loop.invariant (sym c.in_ok-stride.ensures ∙ c.in-Some.is))
