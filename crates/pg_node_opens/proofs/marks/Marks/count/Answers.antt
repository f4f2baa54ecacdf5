use Rattle.std.proofs.Common.{Some, refl}
use Rattle.pg_node_opens.proofs.Kept.{place_within, set_seen}
use Rattle.pg_node_opens.proofs.marks.Marks.count.Goals as goal

pub count_reply-requires : goal.count_reply-requires
count_reply-requires c = (place_within c.self.inside c.args.self.now c.args.place c.self.view_is c.requires c.self.invariant).1

pub returns : goal.returns
returns c = set_seen c.self.inside (record { gather = c.count_reply.new.gather; count = c.self.inside.count }) c.args.place (Some (Some c.args.granted)) refl c.count_reply.ensures c.args.self.now c.self.view_is c.requires
