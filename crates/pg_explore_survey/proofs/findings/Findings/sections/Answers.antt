use Rattle.std.proofs.Common.{◌≡◌, List}
use Rattle.pg_explore_survey.proofs.Sections.{all_sections}
use Rattle.pg_explore_survey.proofs.findings.Findings.sections.Goals as goal

pub returns : goal.returns
returns c =
    all_sections c.args.self.now.scenario.now c.met-mets.result.now c.as_slice-ends.result.now c.as_slice-groups.result.now _ _ _ c.new-sections.result.items c.add_histories.new.sections.items
    c.add_answers.new.sections.items c.met-mets.ensures c.as_slice-ends.ensures.value c.as_slice-groups.ensures.value c.new-sections.ensures.items c.in_ok-add_histories.ensures c.in_ok-add_answers.ensures
