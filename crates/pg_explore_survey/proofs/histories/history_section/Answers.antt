use Rattle.pg_explore_survey.specs.Texts.{history_text, text_at}
use Rattle.pg_explore_survey.proofs.Sections.{texts_more}
use Rattle.pg_explore_survey.proofs.histories.history_section.Goals as goal

pub loop-end-preserved : goal.loop-end-preserved
loop-end-preserved c =
    texts_more (text_at (history_text c.args.scenario.now c.args.group.now) c.args.mets.now) c.args.ends.now c.loop-end.end-index 0 c.loop-end.counts.rows.items c.count_history.new.counts.rows.items
    c.loop-end-test.true c.loop-end.invariant c.in_ok-count_history.ensures
