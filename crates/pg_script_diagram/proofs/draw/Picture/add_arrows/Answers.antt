use Rattle.std.proofs.Common.{◌<◌, ◌≤◌, length, ap, sym, ◌∙◌, arith}
use Rattle.std.proofs.lemmas.List.{append-nil, take_all}
use Rattle.pg_script_diagram.specs.Drawn.{all_drawn, places_of}
use Rattle.pg_script_diagram.proofs.Drawing.{draws_more, last_on}
use Rattle.pg_script_diagram.proofs.Penned.{wrote_as}
use Rattle.pg_script_diagram.proofs.draw.Picture.add_arrows.Goals as goal

pub loop-place-init : goal.loop-place-init
loop-place-init c = (c.len-last.ensures ∙ c.args.self.now.diagram.now.events.ok.0, λ enough. (enough, sym (append-nil _)))

pub loop-place-preserved : goal.loop-place-preserved
loop-place-preserved c =
    let all = c.args.self.now.diagram.now.events.items in
    let arrows = c.args.self.now.arrows.items in
    let within : c.loop-place.place < length arrows = omega (arith, c.loop-place-test.true, c.len-place-end.ensures, c.args.self.now.arrows.ok.0) in (
      last_on all (length all) arrows c.loop-place.place c.loop-place.last c.add_arrow_of-last.result c.index.result.now within c.index.ensures c.loop-place.invariant.0 c.add_arrow_of-last.ensures.last,
      draws_more (places_of c.args.self.now.layout) all (length all) arrows c.loop-place.place c.loop-place.last c.index.result.now c.args.pen.now c.loop-place.pen c.add_arrow_of-last.new.pen
          within c.index.ensures c.loop-place.invariant.0 c.loop-place.invariant.1 c.add_arrow_of-last.ensures.drawn,
    )

pub returns : goal.returns
returns c =
    let all = c.args.self.now.diagram.now.events.items in
    let arrows = c.args.self.now.arrows.items in
    let past : length arrows ≤ c.loop-place.place = omega (arith, c.loop-place-test.false, c.len-place-end.ensures, c.args.self.now.arrows.ok.0) in
    wrote_as _ _ c.args.pen.now c.loop-place.pen (ap (λ xs. all_drawn (places_of c.args.self.now.layout) all (length all) xs) (take_all c.loop-place.place arrows past)) c.loop-place.invariant.1
