use Rattle.std.proofs.Common.{None, refl}
use Rattle.pg_node_opens.proofs.Kept.{set_seen}
use Rattle.pg_node_opens.proofs.marks.Marks.forget.Goals as goal

pub returns : goal.returns
returns c = set_seen c.self.inside (record { gather = c.forget.new.self; count = c.self.inside.count }) c.args.place None refl c.forget.ensures c.args.self.now c.self.view_is c.requires
