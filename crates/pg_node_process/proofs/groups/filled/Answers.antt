use Rattle.std.proofs.Common.{false, ◌∙◌}
use Rattle.pg_step.specs.PgGroup.Table.{merged}
use Rattle.pg_step.proofs.PgGroup.Groups.{merged_more}
use Rattle.pg_node_process.proofs.groups.filled.Goals as goal

pub loop-name-preserved : goal.loop-name-preserved
loop-name-preserved g c =
    let item = c.loop-name-item.result in
    let old = g.T.GroupTable.contents c.loop-name.full in
    merged_more (λ pid. false) (g.T.GroupTable.contents c.args.table) c.args.groups.now c.loop-name.name-index item old (g.T.GroupTable.contents c.merge.new.self) c.loop-name-test.true c.loop-name-item.is c.loop-name.invariant
    (c.in_ok-merge.ensures.ok ∙ (λ j. merged old item.0 (c.as_slice.ensures j) (c.new-nobody.ensures.none j)))
