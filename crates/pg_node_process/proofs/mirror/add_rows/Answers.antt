use Rattle.pg_node_process.proofs.Mirroring.{group_next}
use Rattle.pg_node_process.proofs.mirror.add_rows.Goals as goal

pub loop-name-preserved : goal.loop-name-preserved
loop-name-preserved g c =
    group_next (λ group. group.0) c.args.groups.now c.loop-name.name-index c.loop-name-item.result (g.T.GroupTable.contents c.args.table.now) c.args.outlet.now.gathered.items c.loop-name.outlet.gathered.items c.add_group.new.outlet.gathered.items
    c.args.batch.now.terms.items c.loop-name.batch.terms.items c.add_group.new.batch.terms.items c.loop-name-test.true c.loop-name-item.is c.loop-name.invariant c.in_ok-add_group.ensures.ok
