use Rattle.std.proofs.Common.{◌≡◌, ◌+◌, false, Ok, length, get_or, sym, ap, subst, ◌∙◌, Bool}
use Rattle.pg_explore_tally.specs.declared.ways.Way.{Way}
use Rattle.pg_explore_tally.specs.Walks.{ways_at}
use Rattle.pg_explore_tally.proofs.Passing.{IsTrying, leads_by, none_tried, past, settled_at}
use Rattle.pg_explore_tally.proofs.Passing.{settled_past, tried_changed, tried_same}
use Rattle.pg_explore_tally.proofs.Walking.{ok_same, ways_are}
use Rattle.pg_explore_tally.proofs.streaks.follow_all.Goals as goal
use Rattle.pg_explore_tally.proofs.streaks.follow_all.Goals.{then-branch, else-branch}

pub loop-way-init : goal.loop-way-init
loop-way-init c = none_tried c.args.worlds.now c.args.marks.now c.args.place c.args.streaks.now false c.requires.streaks

pub loop-way-preserved : goal.loop-way-preserved
loop-way-preserved c =
    let worlds = c.args.worlds.now in
    let marks = c.args.marks.now in
    let place = c.args.place in
    let old = c.args.streaks.now in
    let ways = c.as_slice-ways.result.now in
    let i = c.loop-way.way in
    let d : Way = record { place = 0; is_take = false } in
    let reached = (get_or ways i d).place in
    let is : ways_at worlds place ≡ ways = ways_are worlds place c.in-Some.ways.now c.in-Some.ensures.lookup.0 c.in-Some.ensures.lookup.1 ∙ sym c.as_slice-ways.ensures.value in
    let leads = leads_by worlds place i ways d is c.loop-way-test.true in
    elim c.if-branch.branch as (λ _. IsTrying worlds marks place (i + 1) old c.follow.new.streaks c.if-branch.changed) [
      | then-branch w ↦ subst (λ (b : Bool). IsTrying worlds marks place (i + 1) old c.follow.new.streaks b) (sym w.changed-is)
          (tried_changed worlds marks place i (i + 1) old c.loop-way.streaks c.follow.new.streaks c.loop-way.changed reached c.loop-way.invariant leads c.in_ok-follow.ensures.followed)
      | else-branch w ↦ subst (λ (b : Bool). IsTrying worlds marks place (i + 1) old c.follow.new.streaks b) (sym w.changed-is)
          (tried_same worlds marks place i old c.loop-way.streaks c.follow.new.streaks c.loop-way.changed reached c.loop-way.invariant leads c.in_ok-follow.ensures.followed (c.in_ok-follow.ensures.same (ap Ok w.if-branch.false)))
    ]

pub returns-after-loop-way-clause-streaks : goal.returns-after-loop-way-clause-streaks
returns-after-loop-way-clause-streaks c = c.loop-way.invariant.kept

pub returns-after-loop-way-clause-same : goal.returns-after-loop-way-clause-same
returns-after-loop-way-clause-same c = λ e. c.loop-way.invariant.same (ok_same c.loop-way.changed false e)

pub returns-after-loop-way-clause-settled : goal.returns-after-loop-way-clause-settled
returns-after-loop-way-clause-settled c = λ e.
    let ways = c.as_slice-ways.result.now in
    settled_at c.args.worlds.now c.args.marks.now c.args.place c.loop-way.way ways c.args.streaks.now c.loop-way.streaks c.loop-way.changed c.loop-way.invariant
    (ways_are c.args.worlds.now c.args.place c.in-Some.ways.now c.in-Some.ensures.lookup.0 c.in-Some.ensures.lookup.1 ∙ sym c.as_slice-ways.ensures.value)
    c.loop-way-test.false (ok_same c.loop-way.changed false e)

pub returns-in_default-clause-settled : goal.returns-in_default-clause-settled
returns-in_default-clause-settled c = λ e. settled_past c.args.worlds.now c.args.streaks.now c.args.place (past c.args.place (length c.args.worlds.now) c.in_default.ensures.lookup.0)
