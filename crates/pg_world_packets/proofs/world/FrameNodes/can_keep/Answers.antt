use Rattle.std.proofs.Common.{◌≡◌, ◌<◌, ◌∙◌, List, [], get_or, map, length, sym, ap, arith, subst}
use Rattle.std.proofs.lemmas.List.{get_or-map, length-map}
use Rattle.std.specs.Prelude.{IsTrue, ◌↔◌}
use Rattle.pg_node_state.specs.PgMessageTypes.declared.message.Message.{Message}
use Rattle.pg_node_state.specs.PgStep.Machines.Clocked.{Stamped}
use Rattle.pg_world_config.specs.Seen.{seen_of}
use Rattle.pg_world_packets.specs.Views.{CanStay, ways_of}
use Rattle.pg_world_packets.proofs.world.FrameNodes.can_keep.Goals as goal

pub can_keep-requires : goal.can_keep-requires
can_keep-requires g c =
    let nodes = c.args.self.now.nodes.items in
    let outs = c.args.self.now.outgoing.items in
    let whole = c.args.self.now.whole in
    let within : c.args.node < length outs = omega (arith, c.requires.place, whole.rows, length-map outs ways_of, length-map nodes seen_of) in
    let ways : get_or (map ways_of outs) c.args.node [] ≡ ways_of c.index-outgoing.result.now = get_or-map ways_of outs c.args.node c.index-outgoing.result.now [] within ∙ ap ways_of (sym c.index-outgoing.ensures) in
    let many = whole.others c.args.node c.requires.place in
    let same = ap length ways in
    omega (arith, many, same, c.requires.len)

pub returns : goal.returns
returns g c =
    let nodes = c.args.self.now.nodes.items in
    let outs = c.args.self.now.outgoing.items in
    let whole = c.args.self.now.whole in
    let within : c.args.node < length outs = omega (arith, c.requires.place, whole.rows, length-map outs ways_of, length-map nodes seen_of) in
    let ways : get_or (map ways_of outs) c.args.node [] ≡ ways_of c.index-outgoing.result.now = get_or-map ways_of outs c.args.node c.index-outgoing.result.now [] within ∙ ap ways_of (sym c.index-outgoing.ensures) in
    subst (λ (ws : List (List (Stamped Message))). IsTrue c.can_keep.result ↔ CanStay c.args.keep.now ws) (sym ways) c.can_keep.ensures
