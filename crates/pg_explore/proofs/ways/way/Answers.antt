use Rattle.std.proofs.Common.{◌≡◌, ◌∙◌, ap, arith, map, get_or, [], length}
use Rattle.pg_world_packets.specs.PgNodeSends.Sent.{stamped_of}
use Rattle.pg_world_packets.specs.FrameWorlds.{traffic_of}
use Rattle.pg_explore.proofs.Optional.{if_some_at, some_by}
use Rattle.pg_explore.proofs.Sized.{is_pair_so, many_nodes}
use Rattle.pg_explore.proofs.ways.way.Goals as goal

pub unwrap-requires : goal.unwrap-requires
unwrap-requires c =
    let moment = c.args.moment.now in
    let many = many_nodes moment c.requires.sized in
    some_by c.on_way.result _ c.on_way.ensures.there
    (is_pair_so (length (traffic_of moment.world).nodes) c.peer_at-peer.result c.args.node (omega (arith, many, c.requires.peer, c.peer_at-peer.ensures.near)) (omega (arith, many, c.requires.node)) c.peer_at-peer.ensures.other)

pub returns : goal.returns
returns c =
    let moment = c.args.moment.now in
    if_some_at c.on_way.result c.unwrap.result _ c.unwrap.ensures c.on_way.ensures.packets
    ∙ ap (λ k. get_or (get_or (traffic_of moment.world).ways c.args.node []) k []) c.peer_at-peer.ensures.place
