use Rattle.std.proofs.Common.{Some, None, refl}
use Rattle.pg_node_opens.proofs.Kept.{place_within, set_seen}
use Rattle.pg_node_opens.proofs.marks.Marks.ask_one.Goals as goal

pub ask-requires : goal.ask-requires
ask-requires c = (place_within c.self.inside c.args.self.now c.args.place c.self.view_is c.requires c.self.invariant).1

pub returns : goal.returns
returns c = set_seen c.self.inside (record { gather = c.ask.new.self; count = c.self.inside.count }) c.args.place (Some None) refl c.ask.ensures c.args.self.now c.self.view_is c.requires
