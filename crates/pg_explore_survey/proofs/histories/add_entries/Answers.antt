use Rattle.pg_explore_survey.specs.Texts.{written}
use Rattle.pg_explore_survey.proofs.Entries.{entries_more}
use Rattle.pg_explore_survey.proofs.histories.add_entries.Goals as goal

pub loop-entry-preserved : goal.loop-entry-preserved
loop-entry-preserved c =
    entries_more c.args.scenario.now c.args.entries.now c.loop-entry.entry-index c.entry-item.result (written c.args.pen.now) c.args.pen.now c.loop-entry.pen c.add_entry.new.pen
    c.loop-entry-test.true c.entry-item.is c.loop-entry.invariant c.add_entry.ensures
