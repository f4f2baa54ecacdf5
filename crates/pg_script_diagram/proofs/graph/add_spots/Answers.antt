use Rattle.std.proofs.Common.{◌≡◌, ◌+◌, ◌<◌, ◌≤◌, length, ap, sym, ◌∙◌, arith, subst}
use Rattle.std.proofs.lemmas.List.{append-nil, take_all}
use Rattle.pg_script_diagram.specs.Graphs.{point_of, spot_text, spots_text}
use Rattle.pg_script_diagram.specs.Pens.{Writes}
use Rattle.pg_script_diagram.proofs.Penned.{wrote_as}
use Rattle.pg_script_diagram.proofs.Worlds.{spots_more}
use Rattle.pg_script_diagram.proofs.graph.add_spots.Goals as goal

pub loop-place-init : goal.loop-place-init
loop-place-init c = λ enough. (enough, sym (append-nil _))

pub loop-place-preserved : goal.loop-place-preserved
loop-place-preserved c =
    let spots = c.args.graph.now.spots.items in
    let spot = c.index-spot.result.now in
    let within : c.loop-place.place < length spots = omega (arith, c.loop-place-test.true, c.len-place-end.ensures, c.args.graph.now.spots.ok.0) in
    let at : c.point_of-at.result ≡ point_of c.args.most spots c.loop-place.place spot.row = c.point_of-at.ensures ∙ ap (λ all. point_of c.args.most all c.loop-place.place spot.row) c.as_slice.ensures.value in
    spots_more c.args.most spots c.loop-place.place spot c.args.pen.now c.loop-place.pen c.add_spot.new.pen within c.index-spot.ensures c.loop-place.invariant
    (subst (λ place. Writes (spot_text spot place (c.loop-place.place + 1)) c.loop-place.pen c.add_spot.new.pen) at c.add_spot.ensures)

pub returns : goal.returns
returns c =
    let spots = c.args.graph.now.spots.items in
    let past : length spots ≤ c.loop-place.place = omega (arith, c.loop-place-test.false, c.len-place-end.ensures, c.args.graph.now.spots.ok.0) in
    wrote_as _ _ c.args.pen.now c.loop-place.pen (ap (spots_text c.args.most spots 0) (take_all c.loop-place.place spots past)) c.loop-place.invariant
