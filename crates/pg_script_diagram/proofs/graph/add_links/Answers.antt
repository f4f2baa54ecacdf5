use Rattle.std.proofs.Common.{◌<◌, ◌≤◌, length, ap, sym, arith, subst}
use Rattle.std.specs.List.{flat_map}
use Rattle.std.proofs.lemmas.List.{append-nil, take_all}
use Rattle.pg_script_diagram.specs.Graphs.{link_text}
use Rattle.pg_script_diagram.specs.Pens.{Writes}
use Rattle.pg_script_diagram.proofs.Penned.{wrote_as}
use Rattle.pg_script_diagram.proofs.Worlds.{links_more}
use Rattle.pg_script_diagram.proofs.graph.add_links.Goals as goal

pub loop-place-init : goal.loop-place-init
loop-place-init c = λ enough. (enough, sym (append-nil _))

pub loop-place-preserved : goal.loop-place-preserved
loop-place-preserved c =
    let links = c.args.graph.now.links.items in
    let within : c.loop-place.place < length links = omega (arith, c.loop-place-test.true, c.len-place-end.ensures, c.args.graph.now.links.ok.0) in
    links_more (link_text c.args.most c.args.graph.now.spots.items) links c.loop-place.place c.index.result.now c.args.pen.now c.loop-place.pen c.add_link.new.pen within c.index.ensures c.loop-place.invariant
    (subst (λ spots. Writes (link_text c.args.most spots c.index.result.now) c.loop-place.pen c.add_link.new.pen) c.as_slice.ensures.value c.add_link.ensures)

pub returns : goal.returns
returns c =
    let links = c.args.graph.now.links.items in
    let past : length links ≤ c.loop-place.place = omega (arith, c.loop-place-test.false, c.len-place-end.ensures, c.args.graph.now.links.ok.0) in
    wrote_as _ _ c.args.pen.now c.loop-place.pen (ap (flat_map (link_text c.args.most c.args.graph.now.spots.items)) (take_all c.loop-place.place links past)) c.loop-place.invariant
