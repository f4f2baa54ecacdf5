use Rattle.std.proofs.Common.{◌≡◌, List, ℕ, ◌∷◌, [], ◌++◌, None, Option, get_or, take, sym, subst}
use Rattle.std.proofs.lemmas.List.{take_all, take_more}
use Rattle.pg_explore_tally.specs.declared.takes.Takes.{Takes}
use Rattle.pg_explore_survey.specs.Findings.{AreAmong, joined_takes}
use Rattle.pg_explore_survey.proofs.Joining.{join_step}
use Rattle.pg_explore_survey.proofs.report.takes_among.Goals as goal

pub loop-place-preserved : goal.loop-place-preserved
loop-place-preserved c = λ worlds h.
    let places = c.args.places.now in
    let i = c.loop-place.place-index in
    let place = get_or places i 0 in
    subst (λ (xs : List ℕ). AreAmong worlds xs c.with_next-among.result) (sym (take_more places i 0 c.loop-place-test.true))
    (subst (λ (o : Option Takes). AreAmong worlds (take i places ++ place ∷ []) o) (sym c.with_next-among.ensures)
    (join_step worlds c.args.takes.now (take i places) place c.loop-place.among h (c.loop-place.invariant worlds h)))

pub returns : goal.returns
returns c = λ worlds h. subst (λ (xs : List ℕ). AreAmong worlds xs c.loop-place.among) (take_all c.loop-place.place-index c.args.places.now c.loop-place-test.false) (c.loop-place.invariant worlds h)
