use Rattle.std.proofs.Common.{◌≡◌, ◌++◌, ◌∷◌, [], length, map, rules}
use Rattle.pg_exchange.specs.Undone.{noted, undone}
use Rattle.pg_exchange.proofs.Undone.{last_back}
use Rattle.pg_exchange.proofs.merging.undo.Goals as goal

pub loop-counts-preserved-in-Some : goal.loop-counts-preserved-in-Some
loop-counts-preserved-in-Some g c =
    let popped : c.loop-counts.before.items ≡ c.pop.new.self.items ++ c.in-Some.counts ∷ [] = search rules in
    let place : c.len.result ≡ length c.pop.new.self.items = search rules in
    last_back (g.T.GroupTable.contents c.loop-counts.table) (g.T.GroupTable.contents c.put_back.new.table)
    (undone (g.T.GroupTable.contents c.args.table.now) c.args.groups.now (map noted c.args.before.items))
    c.args.groups.now c.loop-counts.before.items c.pop.new.self.items c.in-Some.counts c.len.result c.index-groups-len.result c.as_slice.result.now
    c.loop-counts.invariant popped place c.index-groups-len.is c.as_slice.ensures c.put_back.ensures

pub loop-counts-preserved : goal.loop-counts-preserved
loop-counts-preserved g c =
    let popped : c.loop-counts.before.items ≡ c.pop.new.self.items ++ c.in-Some.counts ∷ [] = search rules in
    let place : c.len.result ≡ length c.pop.new.self.items = search rules in
    last_back (g.T.GroupTable.contents c.loop-counts.table) (g.T.GroupTable.contents c.put_back.new.table)
    (undone (g.T.GroupTable.contents c.args.table.now) c.args.groups.now (map noted c.args.before.items))
    c.args.groups.now c.loop-counts.before.items c.pop.new.self.items c.in-Some.counts c.len.result c.index-groups-len.result c.as_slice.result.now
    c.loop-counts.invariant popped place c.index-groups-len.is c.as_slice.ensures c.put_back.ensures
