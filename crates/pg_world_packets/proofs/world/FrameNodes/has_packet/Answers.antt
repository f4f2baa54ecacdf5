use Rattle.std.proofs.Common.{◌<◌, length, sym, subst}
use Rattle.pg_world_packets.specs.Views.{ways_of}
use Rattle.pg_world_packets.proofs.Taking.{sender_place}
use Rattle.pg_world_packets.proofs.world.FrameNodes.has_packet.Goals as goal

pub first-requires : goal.first-requires
first-requires g c =
    let sender = c.index-sender.result.now in
    record { place = subst (λ k. k < length (ways_of sender)) (sym c.peer_place.ensures) (sender_place c.args.self.now.nodes.items c.args.self.now.outgoing.items c.args.self.now.whole c.args.node c.args.peer c.requires sender c.index-sender.ensures) }
