use Rattle.std.proofs.Common.{◌≡◌, ◌∙◌, ◌+◌, List, ap, map, subst, sym, take}
use Rattle.std.specs.Global.{Vec}
use Rattle.pg_explore.specs.declared.visitor.Led.{Led}
use Rattle.pg_explore_tally.specs.declared.ways.Way.{Way}
use Rattle.pg_explore_survey.specs.Ways.{AreWaysOf, all_led, way_of}
use Rattle.pg_explore_survey.proofs.Leading.{ways_more}
use Rattle.pg_explore_survey.proofs.recorder.all_ways.Goals as goal

pub loop-row-preserved : goal.loop-row-preserved
loop-row-preserved c =
    let i = c.loop-row.row-index in
    subst (λ (xs : List (Vec Way)). AreWaysOf (all_led (take (i + 1) c.args.led.now)) xs) (sym c.in_ok-push.ensures.items)
    (ways_more c.args.led.now i c.row-item.result c.loop-row.all.items c.in_ok-ways.ways c.loop-row-test.true c.row-item.is c.loop-row.invariant
    (c.in_ok-ways.ensures ∙ ap (map way_of) c.as_slice.ensures.value))
