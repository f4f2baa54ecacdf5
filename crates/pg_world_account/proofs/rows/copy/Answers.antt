use Rattle.pg_world_account.proofs.CopiedRows.{rows_begun, rows_more, entries_copied, counts_copied, marks_copied}
use Rattle.pg_world_account.proofs.rows.copy.Goals as goal

pub loop-name-init : goal.loop-name-init
loop-name-init c =
    let gives = c.into_iter-name-iterator.ensures.into_iter_gives in
    rows_begun c.args.rows.now c.new-copy.result c.into_iter-name-iterator.result gives.0 gives.6 c.new-copy.ensures.empty

pub loop-name-preserved : goal.loop-name-preserved
loop-name-preserved c =
    rows_more c.args.rows.now c.loop-name.copy c.insert.new.self c.in-Some.name.now c.in_ok-copy.field-0 c.in-Some.row.now c.in_ok-copy-2.field-0 c.loop-name.name-iterator c.next.new.self
    c.in-Some.ensures.steps c.in_ok-copy.ensures c.in_ok-copy-2.ensures.entries c.in_ok-copy-2.ensures.counts c.in_ok-copy-2.ensures.marks c.loop-name.invariant c.in_ok-insert.ensures.updates

pub loop-name-preserved-in_ok-insert : goal.loop-name-preserved-in_ok-insert
loop-name-preserved-in_ok-insert c =
    rows_more c.args.rows.now c.loop-name.copy c.insert.new.self c.in-Some.name.now c.in_ok-copy.field-0 c.in-Some.row.now c.in_ok-copy-2.field-0 c.loop-name.name-iterator c.next.new.self
    c.in-Some.ensures.steps c.in_ok-copy.ensures c.in_ok-copy-2.ensures.entries c.in_ok-copy-2.ensures.counts c.in_ok-copy-2.ensures.marks c.loop-name.invariant c.in_ok-insert.ensures.updates

pub returns-clause-entries : goal.returns-clause-entries
returns-clause-entries c = entries_copied c.args.rows.now c.loop-name.copy c.loop-name.name-iterator c.in-None.ensures.steps.0 c.loop-name.invariant

pub returns-clause-counts : goal.returns-clause-counts
returns-clause-counts c = counts_copied c.args.rows.now c.loop-name.copy c.loop-name.name-iterator c.in-None.ensures.steps.0 c.loop-name.invariant

pub returns-clause-marks : goal.returns-clause-marks
returns-clause-marks c = marks_copied c.args.rows.now c.loop-name.copy c.loop-name.name-iterator c.in-None.ensures.steps.0 c.loop-name.invariant
