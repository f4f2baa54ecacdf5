use Rattle.std.proofs.Common.{◌≡◌, ◌<◌, ◌≤◌, ◌∙◌, ap, arith, map, get_or, [], length}
use Rattle.std.proofs.lemmas.List.{length-map}
use Rattle.std.proofs.lemmas.Option.{slice_get-get_or}
use Rattle.pg_world_packets.specs.Alike.{without_stamps}
use Rattle.pg_world_packets.specs.FrameWorlds.{traffic_of}
use Rattle.pg_explore.specs.Numbers.{mixed_row}
use Rattle.pg_explore.proofs.Counting.{fold_all, fold_more, map_at}
use Rattle.pg_explore.proofs.Sized.{many_rows}
use Rattle.pg_explore.proofs.number.with_rows.Goals as goal

pub loop-node-preserved : goal.loop-node-preserved
loop-node-preserved c =
    let moment = c.args.moment.now in
    let ways = (traffic_of moment.world).ways in
    let node = c.loop-node.node in
    let within : node < length ways = omega (arith, many_rows moment c.requires, c.loop-node-test.true, c.loop-node.auto.node-end, c.len-node-end.ensures, moment.strands.ok.0) in
    fold_more mixed_row (map without_stamps ways) node _ _ _ (without_stamps (get_or ways node [])) (map_at without_stamps ways node (get_or ways node []) (slice_get-get_or ways node [] within))
    c.loop-node.invariant c.with_row-mixed.ensures

pub returns : goal.returns
returns c =
    let moment = c.args.moment.now in
    let ways = (traffic_of moment.world).ways in
    let past : length (map without_stamps ways) ≤ c.loop-node.node = omega (arith, many_rows moment c.requires, length-map ways without_stamps, c.loop-node-test.false, c.loop-node.auto.node-end, c.len-node-end.ensures, moment.strands.ok.0) in
    fold_all mixed_row (map without_stamps ways) c.loop-node.node _ _ past c.loop-node.invariant
