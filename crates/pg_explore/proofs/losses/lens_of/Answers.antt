use Rattle.std.proofs.Common.{◌≡◌, ◌<◌, ◌≤◌, ◌+◌, ◌∷◌, ◌++◌, [], List, ℕ, map}
use Rattle.std.proofs.Common.{take, get_or, length, sym, ap, ap₂, ◌∙◌, arith}
use Rattle.std.proofs.lemmas.List.{length-map, take_all, take_more}
use Rattle.pg_world_packets.specs.PgNodeSends.Sent.{stamped_of}
use Rattle.pg_world_packets.specs.FrameWorlds.{traffic_of}
use Rattle.pg_explore.proofs.Lengthening.{length_at}
use Rattle.pg_explore.proofs.Sized.{many_ways}
use Rattle.pg_explore.proofs.losses.lens_of.Goals as goal

pub loop-place-preserved : goal.loop-place-preserved
loop-place-preserved c =
    let moment = c.args.moment.now in
    let row = get_or (traffic_of moment.world).ways c.args.node [] in
    let place = c.loop-place.place in
    let many = many_ways moment c.args.node c.requires.sized c.requires.node in
    let within : place < length (map length row) = omega (arith, many, length-map row length, c.loop-place-test.true, c.loop-place.auto.place-end, c.len-place-end.ensures, moment.strands.ok.0) in
    let packets = c.way-packets.result.now in
    let ok = packets.ok.0 in
    let len : c.len.result ≡ length packets.items = omega (arith, c.len.ensures, ok) in
    let here : c.len.result ≡ get_or (map length row) place 0 = len ∙ sym (length-map packets.items stamped_of) ∙ ap length c.way-packets.ensures ∙ sym (length_at row place) in
    c.in_ok-push.ensures.items ∙ ap₂ (λ (xs : List ℕ) (n : ℕ). xs ++ n ∷ []) c.loop-place.invariant here ∙ sym (take_more (map length row) place 0 within)

pub returns : goal.returns
returns c =
    let moment = c.args.moment.now in
    let row = get_or (traffic_of moment.world).ways c.args.node [] in
    let many = many_ways moment c.args.node c.requires.sized c.requires.node in
    let past : length (map length row) ≤ c.loop-place.place = omega (arith, many, length-map row length, c.loop-place-test.false, c.loop-place.auto.place-end, c.len-place-end.ensures, moment.strands.ok.0) in
    c.loop-place.invariant ∙ take_all c.loop-place.place (map length row) past
