use Rattle.std.proofs.Common.{arith}
use Rattle.pg_node_process.proofs.Mirroring.{place_next, rows_whole}
use Rattle.pg_node_process.proofs.mirror.add_places.Goals as goal

pub loop-place-preserved : goal.loop-place-preserved
loop-place-preserved g c =
    place_next (g.T.GroupsByPlace.order c.args.table.now) c.loop-place.place c.name_at.result.now (g.T.GroupTable.contents c.args.table.now) c.args.outlet.now.gathered.items c.loop-place.outlet.gathered.items c.add_group.new.outlet.gathered.items
    c.args.batch.now.terms.items c.loop-place.batch.terms.items c.add_group.new.batch.terms.items c.name_at.ensures c.loop-place.invariant c.in_ok-add_group.ensures.ok

pub returns-clause-ok : goal.returns-clause-ok
returns-clause-ok g c =
    rows_whole (g.T.GroupsByPlace.order c.args.table.now) c.loop-place.place (g.T.GroupTable.contents c.args.table.now) c.args.outlet.now.gathered.items c.loop-place.outlet.gathered.items c.args.batch.now.terms.items c.loop-place.batch.terms.items
    c.group_count-place-end.ensures.names (omega (arith, c.group_count-place-end.ensures.count)) c.loop-place.invariant
