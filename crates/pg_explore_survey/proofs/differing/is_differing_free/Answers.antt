use Rattle.std.proofs.Common.{◌≡◌, true, List, [], ◌∷◌, ◌++◌, Bool, get_or, take, sym, subst}
use Rattle.std.proofs.lemmas.List.{take_all, take_more}
use Rattle.pg_term.specs.declared.term.Term.{Term}
use Rattle.pg_script.specs.PgWorldPackets.FrameWorlds.{lost_of, traffic_of}
use Rattle.pg_explore_survey.specs.Differing.{DifferFreeOn, Decides}
use Rattle.pg_explore_survey.proofs.Looking.{NoName, no_more_name}
use Rattle.pg_explore_survey.proofs.differing.is_differing_free.Goals as goal

pub loop-name-preserved : goal.loop-name-preserved
loop-name-preserved c =
    let names = c.args.names.now in
    let i = c.loop-name.name-index in
    let item = c.name-item.result in
    let P : Term → Type 0 = λ (name : Term). DifferFreeOn (traffic_of c.args.world.now).nodes (lost_of c.args.world.now) c.args.count name in
    subst (λ (xs : List Term). NoName P xs) (sym (take_more names i item c.loop-name-test.true))
    (subst (λ (n : Term). NoName P (take i names ++ n ∷ [])) c.name-item.is
    (no_more_name P (take i names) item c.loop-name.invariant (subst (λ (b : Bool). Decides (P item) b) c.if-branch.false c.in_ok-differ_free.ensures)))

pub returns : goal.returns
returns c =
    let names = c.args.names.now in
    let P : Term → Type 0 = λ (name : Term). DifferFreeOn (traffic_of c.args.world.now).nodes (lost_of c.args.world.now) c.args.count name in
    λ d. subst (λ (xs : List Term). NoName P xs) (take_all c.loop-name.name-index names c.loop-name-test.false) c.loop-name.invariant d.name d.among d.is
