use Rattle.std.proofs.Common.{◌+◌, ◌∙◌, false, sym, ap}
use Rattle.std.specs.Option.{option_map_or}
use Rattle.pg_world_packets.specs.PgNodeOpens.Places.{name_at}
use Rattle.pg_world_packets.specs.PgNodeState.States.{names_of, state_of}
use Rattle.pg_world_packets.specs.PgWorldConfig.Seen.{Seen}
use Rattle.pg_world_packets.specs.Views.{peer_place}
use Rattle.pg_world.proofs.Linked.{first_there, seen_there}
use Rattle.pg_world.proofs.bytes.ByteNodes.has_seen.Goals as goal

pub returns : goal.returns
returns g c =
    let nodes = c.args.self.now.nodes.items in
    let rings = c.args.self.now.rings.items in
    let over = c.index-over.result.now in
    let l = first_there nodes rings c.args.node c.args.peer c.requires c.args.self.now.rows in
    let here = seen_there nodes rings c.args.node over l c.index-over.ensures in
    c.is_lost.ensures ∙ ((λ j. (state_of (c.state.ensures j)).state.lost (name_at (names_of (c.state.ensures j)) (c.peer_place.ensures j + 1)))
    ∙ sym (ap (λ o. option_map_or (λ (node : Seen). node.state.state.lost (name_at node.names (peer_place c.args.node c.args.peer + 1))) o false) here))
