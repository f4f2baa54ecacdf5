use Rattle.pg_node_process.proofs.Mirroring.{name_next}
use Rattle.pg_node_process.proofs.mirror.add_named.Goals as goal

pub loop-name-preserved : goal.loop-name-preserved
loop-name-preserved g c =
    name_next c.args.names.now c.loop-name.name-index c.name-item.result (g.T.GroupTable.contents c.args.table.now) c.args.outlet.now.gathered.items c.loop-name.outlet.gathered.items c.add_group.new.outlet.gathered.items
    c.args.batch.now.terms.items c.loop-name.batch.terms.items c.add_group.new.batch.terms.items c.loop-name-test.true c.name-item.is c.loop-name.invariant c.in_ok-add_group.ensures.ok
