use Rattle.pg_explore_survey.specs.Texts.{answer_counting}
use Rattle.pg_explore_survey.proofs.Sections.{sections_ranged}
use Rattle.pg_explore_survey.proofs.answers.add_answers_of.Goals as goal

pub loop-place-preserved : goal.loop-place-preserved
loop-place-preserved c =
    sections_ranged (answer_counting c.args.scenario.now c.args.mets.now c.args.ends.now c.args.node) c.loop-place.place c.in_ok-section.section c.args.sections.now.items c.loop-place.sections.items c.push.new.self.items
    c.loop-place.invariant c.in_ok-section.ensures c.in_ok-push.ensures.items
