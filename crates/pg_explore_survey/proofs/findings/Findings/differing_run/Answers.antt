use Rattle.std.proofs.Common.{◌≡◌, List, Bool, true, Some, Option, sym, subst}
use Rattle.std.specs.Global.{Vec}
use Rattle.pg_explore_tally.specs.declared.runs.Run.{Run}
use Rattle.pg_explore_tally.specs.declared.ways.Way.{Way}
use Rattle.pg_explore_tally.specs.Runs.{IsLongest}
use Rattle.pg_explore_survey.specs.Findings.{IsWhereMarked, differing_marks}
use Rattle.pg_explore_survey.proofs.Joining.{where_found}
use Rattle.pg_explore_survey.proofs.findings.Findings.differing_run.Goals as goal

pub returns-in_ok-strides-in-Some : goal.returns-in_ok-strides-in-Some
returns-in_ok-strides-in-Some c =
    let worlds = c.as_slice-ways.result.now in
    let found = subst (λ (r : Option Run). IsLongest worlds c.as_slice.result.now r) c.in-Some.is c.in_ok-run.ensures in
    subst (λ (marks : List Bool). IsWhereMarked marks true) c.as_slice.ensures.value (where_found worlds c.as_slice.result.now c.in-Some.run' found)
