use Rattle.std.proofs.Common.{◌≡◌, ◌<◌, ◌≤◌, ◌∙◌, ap, arith, map, length}
use Rattle.std.proofs.lemmas.List.{length-map}
use Rattle.std.specs.Option.{option_copied}
use Rattle.pg_world_packets.specs.Alike.{without_clock}
use Rattle.pg_world_packets.specs.FrameWorlds.{traffic_of}
use Rattle.pg_world_packets.specs.PgWorldConfig.Seen.{seen_of}
use Rattle.pg_explore.specs.Numbers.{mixed_node}
use Rattle.pg_explore.proofs.Counting.{fold_all, fold_more, map_at}
use Rattle.pg_explore.proofs.Optional.{inside_some, seen_or}
use Rattle.pg_explore.proofs.Sized.{many_nodes}
use Rattle.pg_explore.proofs.number.with_nodes.Goals as goal

pub loop-node-preserved : goal.loop-node-preserved
loop-node-preserved c =
    let moment = c.args.moment.now in
    let nodes = (traffic_of moment.world).nodes in
    let node = c.loop-node.node in
    let within : node < length nodes = omega (arith, many_nodes moment c.requires, c.loop-node-test.true, c.loop-node.auto.node-end, c.len-node-end.ensures, moment.strands.ok.0) in
    let at = inside_some nodes node within in
    fold_more mixed_node (map without_clock nodes) node _ _ _ (without_clock at.0) (map_at without_clock nodes node at.0 at.1)
    c.loop-node.invariant (c.with_node-mixed.ensures ∙ seen_or seen_of (λ s. mixed_node c.loop-node.mixed (without_clock s)) (option_copied c.node.result) c.loop-node.mixed at.0 (c.node.ensures ∙ at.1))

pub returns : goal.returns
returns c =
    let moment = c.args.moment.now in
    let nodes = (traffic_of moment.world).nodes in
    let past : length (map without_clock nodes) ≤ c.loop-node.node = omega (arith, many_nodes moment c.requires, length-map nodes without_clock, c.loop-node-test.false, c.loop-node.auto.node-end, c.len-node-end.ensures, moment.strands.ok.0) in
    fold_all mixed_node (map without_clock nodes) c.loop-node.node _ _ past c.loop-node.invariant
