use Rattle.std.proofs.Common.{◌++◌, List, append_assoc, take, ap, sym, ◌∙◌}
use Rattle.std.proofs.lemmas.List.{append-nil, take_all}
use Rattle.std.specs.List.{flat_map}
use Rattle.pg_script_trace.specs.declared.seen.Sight.{Sight}
use Rattle.pg_script_trace.specs.Happenings.{Happening, seen_as, shown}
use Rattle.pg_script_trace.proofs.Listing.{flat_more}
use Rattle.pg_script_trace.proofs.drawing.add_sights.Goals as goal

pub loop-place-init : goal.loop-place-init
loop-place-init c = sym (append-nil (flat_map shown c.args.events.now.items))

pub loop-place-preserved : goal.loop-place-preserved
loop-place-preserved c =
    let letters = c.args.watch.now.letters.items in
    let sights = c.args.sights.now in
    let before = flat_map shown c.args.events.now.items in
    c.in_ok-line.ensures
    ∙ ap (λ (done : List Happening). done ++ seen_as letters c.index-sights-place.result.seen) c.loop-place.invariant
    ∙ append_assoc before (flat_map (λ (sight : Sight). seen_as letters sight.seen) (take c.loop-place.place sights)) (seen_as letters c.index-sights-place.result.seen)
    ∙ ap (λ (done : List Happening). before ++ done) (flat_more (λ (sight : Sight). seen_as letters sight.seen) sights c.loop-place.place c.index-sights-place.result c.loop-place-test.true c.index-sights-place.is)

pub returns : goal.returns
returns c =
    c.loop-place.invariant
    ∙ ap (λ (xs : List Sight). flat_map shown c.args.events.now.items ++ flat_map (λ (sight : Sight). seen_as c.args.watch.now.letters.items sight.seen) xs) (take_all c.loop-place.place c.args.sights.now c.loop-place-test.false)
