use Rattle.std.proofs.Common.{◌≡◌, ◌<◌, ◌≤◌, ◌∙◌, ap, arith, map, get_or, [], length}
use Rattle.std.proofs.lemmas.List.{length-map}
use Rattle.std.proofs.lemmas.Option.{slice_get-get_or}
use Rattle.pg_world_packets.specs.Alike.{without_stamps}
use Rattle.pg_world_packets.specs.FrameWorlds.{traffic_of}
use Rattle.pg_explore.specs.Numbers.{mixed_way, unstamped_of}
use Rattle.pg_explore.proofs.Counting.{fold_all, fold_more, map_at}
use Rattle.pg_explore.proofs.Sized.{many_ways}
use Rattle.pg_explore.proofs.number.with_row.Goals as goal

pub loop-place-preserved : goal.loop-place-preserved
loop-place-preserved c =
    let moment = c.args.moment.now in
    let row = get_or (traffic_of moment.world).ways c.args.node [] in
    let place = c.loop-place.place in
    let many = many_ways moment c.args.node c.requires.sized c.requires.place in
    let within : place < length row = omega (arith, many, c.loop-place-test.true, c.loop-place.auto.place-end, c.len-place-end.ensures, moment.strands.ok.0) in
    fold_more mixed_way (without_stamps row) place _ _ _ (unstamped_of (get_or row place [])) (map_at unstamped_of row place (get_or row place []) (slice_get-get_or row place [] within))
    c.loop-place.invariant (c.with_way-mixed.ensures ∙ ap (λ way. mixed_way c.loop-place.mixed (unstamped_of way)) c.way.ensures)

pub returns : goal.returns
returns c =
    let moment = c.args.moment.now in
    let row = get_or (traffic_of moment.world).ways c.args.node [] in
    let many = many_ways moment c.args.node c.requires.sized c.requires.place in
    let past : length (without_stamps row) ≤ c.loop-place.place = omega (arith, many, length-map row unstamped_of, c.loop-place-test.false, c.loop-place.auto.place-end, c.len-place-end.ensures, moment.strands.ok.0) in
    fold_all mixed_way (without_stamps row) c.loop-place.place _ _ past c.loop-place.invariant
