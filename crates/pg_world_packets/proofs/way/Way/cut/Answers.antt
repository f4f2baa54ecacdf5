use Rattle.std.proofs.Common.{◌∙◌, map, sym, ap}
use Rattle.std.proofs.lemmas.List.{take-map}
use Rattle.pg_node_state.specs.PgNodeSends.Sent.{stamped_of}
use Rattle.pg_world_packets.proofs.way.Way.cut.Goals as goal

pub returns : goal.returns
returns c = ap (map stamped_of) c.truncate.ensures.items ∙ sym (take-map stamped_of c.args.keep c.args.self.now.packets.items)
