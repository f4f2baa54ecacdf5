use Rattle.std.proofs.Common.{List, ap, ◌∙◌}
use Rattle.pg_term.specs.declared.pid.Pid.{Pid}
use Rattle.pg_group.specs.Ended.{ended_of}
use Rattle.pg_group.specs.Rows.{table_of}
use Rattle.pg_group.specs.Table.{merged}
use Rattle.pg_group.proofs.Groups.{merged_more}
use Rattle.pg_group.proofs.rows.merge_all.Goals as goal

pub loop-name-preserved : goal.loop-name-preserved
loop-name-preserved c =
    let item = c.loop-name-item.result in
    let ended = ended_of c.args.ended.now in
    merged_more ended (table_of c.args.rows.now) c.args.groups.now c.loop-name.name-index item (table_of c.loop-name.rows) (table_of c.merge.new.rows) c.loop-name-test.true c.loop-name-item.is c.loop-name.invariant
    (c.in_ok-merge.ensures.ok ∙ ap (λ (pids : List Pid). merged (table_of c.loop-name.rows) item.0 pids ended) c.as_slice.ensures)
