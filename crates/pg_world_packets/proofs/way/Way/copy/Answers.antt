use Rattle.std.proofs.Common.{◌∙◌, List, map, ap, subst, sym}
use Rattle.pg_node_state.specs.PgMessageTypes.declared.packet.Packet.{Packet}
use Rattle.pg_node_state.specs.PgNodeSends.Sent.{stamped_of}
use Rattle.pg_world_packets.specs.Short.{HaveShortGroups}
use Rattle.pg_world_packets.proofs.way.Way.copy.Goals as goal

pub invariant_of-result : goal.invariant_of-result
invariant_of-result c = record { short = subst HaveShortGroups (sym (c.from_vec.ensures.items ∙ c.in_ok-packets.ensures)) c.args.self.now.short }

pub returns : goal.returns
returns c = ap (λ (packets : List Packet). map stamped_of packets) (c.from_vec.ensures.items ∙ c.in_ok-packets.ensures)
