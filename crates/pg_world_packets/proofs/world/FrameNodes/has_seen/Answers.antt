use Rattle.std.proofs.Common.{◌+◌, ◌<◌, ◌∙◌, false, length, sym, ap, subst}
use Rattle.std.specs.Option.{option_map_or}
use Rattle.pg_node_state.specs.PgNodeOpens.Places.{name_at}
use Rattle.pg_node_state.specs.States.{names_of, state_of}
use Rattle.pg_world_config.specs.Seen.{Seen}
use Rattle.pg_world_packets.specs.Views.{peer_place}
use Rattle.pg_world_packets.proofs.Taking.{taker_there, taker_place}
use Rattle.pg_world_packets.proofs.Viewing.{seen_here}
use Rattle.pg_world_packets.proofs.world.FrameNodes.has_seen.Goals as goal

pub is_lost-requires : goal.is_lost-requires
is_lost-requires g c =
    let nodes = c.args.self.now.nodes.items in
    let outs = c.args.self.now.outgoing.items in
    let state = c.index-state.result.now in
    record { place = subst (λ k. k + 1 < length (names_of state)) (sym c.peer_place.ensures) (taker_place nodes outs c.args.self.now.whole c.args.node c.args.peer c.requires state c.index-state.ensures) }

pub returns : goal.returns
returns g c =
    let nodes = c.args.self.now.nodes.items in
    let outs = c.args.self.now.outgoing.items in
    let state = c.index-state.result.now in
    let here = seen_here nodes outs c.args.node c.args.self.now.whole (taker_there nodes outs c.args.self.now.whole c.args.node c.args.peer c.requires) state c.index-state.ensures in
    c.is_lost.ensures ∙ (ap (λ k. (state_of state).state.lost (name_at (names_of state) (k + 1))) c.peer_place.ensures
    ∙ sym (ap (λ o. option_map_or (λ (node : Seen). node.state.state.lost (name_at node.names (peer_place c.args.node c.args.peer + 1))) o false) here))
