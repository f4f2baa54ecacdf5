use Rattle.std.proofs.Common.{◌++◌}
use Rattle.pg_group.specs.Scope.{in_scope}
use Rattle.pg_index_members.specs.Rows.{spread}
use Rattle.pg_index_members.proofs.Parts.{listed_more}
use Rattle.pg_index_members.proofs.level.LevelPart.list.Goals as goal

pub loop-part-preserved : goal.loop-part-preserved
loop-part-preserved g c =
    let among = in_scope c.args.scope in
    listed_more g.P.Part.rows among c.asked-part-items.result.now c.loop-part.part-index c.part-item.result c.loop-part-test.true c.part-item.is c.loop-part.pids.items c.list.new.pids.items (c.args.pids.now.items ++ spread among c.args.self.now) c.in_ok-list.ensures c.loop-part.invariant
