use Rattle.pg_explore_survey.specs.Texts.{answer_countings}
use Rattle.pg_explore_survey.proofs.Sections.{sections_rows}
use Rattle.pg_explore_survey.proofs.answers.add_answers.Goals as goal

pub loop-node-preserved : goal.loop-node-preserved
loop-node-preserved c =
    sections_rows (answer_countings c.args.scenario.now c.args.mets.now c.args.ends.now) c.loop-node.node c.args.sections.now.items c.loop-node.sections.items c.add_answers_of.new.sections.items
    c.loop-node.invariant c.in_ok-add_answers_of.ensures
