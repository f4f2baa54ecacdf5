use Rattle.std.proofs.Common.{◌≡◌, sym, subst}
use Rattle.std.proofs.lemmas.Result.{IfOk-weaker}
use Rattle.pg_explore.specs.declared.explored.Explored.{Explored}
use Rattle.pg_explore.specs.Explorations.{AreFollowed, met_of}
use Rattle.pg_explore_survey.specs.Findings.{met_in}
use Rattle.pg_explore_survey.proofs.findings.survey.Goals as goal

pub returns-in-Ok-clause-followed : goal.returns-in-Ok-clause-followed
returns-in-Ok-clause-followed g c =
    IfOk-weaker c.counted.result (λ found. found.explored ≡ c.in-Ok.explored) (λ found. AreFollowed c.args.scenario.now.plans.items c.args.limits.retries (met_in found) found.explored.lent)
    (λ found e. subst (λ (x : Explored). AreFollowed c.args.scenario.now.plans.items c.args.limits.retries (met_of x) x.lent) (sym e)
    (subst (λ plans. AreFollowed plans c.args.limits.retries (met_of c.in-Ok.explored) c.in-Ok.explored.lent) c.as_slice.ensures.value c.in-Ok.ensures.followed))
    c.counted.ensures.explored
