use Rattle.std.proofs.Common.{◌<◌, ◌∙◌, length, sym, subst}
use Rattle.pg_world_packets.specs.Views.{ways_of}
use Rattle.pg_world_packets.proofs.Taking.{sender_place}
use Rattle.pg_world_packets.proofs.world.FrameNodes.on_way.Goals as goal

pub packets-requires : goal.packets-requires
packets-requires g c =
    let sender = c.index-outgoing.result.now in
    record {
      place = subst (λ k. k < length (ways_of sender)) (sym c.peer_place.ensures)
          (sender_place c.args.self.now.nodes.items c.args.self.now.outgoing.items c.args.self.now.whole c.args.to c.args.from (sym c.has_pair.ensures ∙ c.if-not-has_pair.false) sender c.index-outgoing.ensures);
    }
