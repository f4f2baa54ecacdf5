use Rattle.pg_explore_survey.specs.Texts.{history_counting}
use Rattle.pg_explore_survey.proofs.Sections.{sections_mapped}
use Rattle.pg_explore_survey.proofs.histories.add_histories.Goals as goal

pub loop-group-preserved : goal.loop-group-preserved
loop-group-preserved c =
    sections_mapped (history_counting c.args.scenario.now c.args.mets.now c.args.ends.now) c.args.groups.now c.loop-group.group-index c.group-item.result c.in_ok-section.section c.args.sections.now.items c.loop-group.sections.items c.push.new.self.items
    c.loop-group-test.true c.group-item.is c.loop-group.invariant c.in_ok-section.ensures c.in_ok-push.ensures.items
