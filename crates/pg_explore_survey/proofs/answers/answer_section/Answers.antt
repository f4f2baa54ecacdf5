use Rattle.pg_explore_survey.specs.Texts.{answer_text, text_at}
use Rattle.pg_explore_survey.proofs.Sections.{texts_more}
use Rattle.pg_explore_survey.proofs.answers.answer_section.Goals as goal

pub loop-end-preserved : goal.loop-end-preserved
loop-end-preserved c =
    texts_more (text_at (answer_text c.args.node c.args.place) c.args.mets.now) c.args.ends.now c.loop-end.end-index 0 c.loop-end.counts.rows.items c.count_answer.new.counts.rows.items
    c.loop-end-test.true c.loop-end.invariant c.in_ok-count_answer.ensures
