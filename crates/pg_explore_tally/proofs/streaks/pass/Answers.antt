use Rattle.std.proofs.Common.{◌+◌, false, Ok, sym, ap, subst, Bool}
use Rattle.pg_explore_tally.proofs.Passing.{IsTryingAll, are_settled, tried_all_changed, tried_all_same}
use Rattle.pg_explore_tally.proofs.Walking.{ok_same}
use Rattle.pg_explore_tally.proofs.streaks.pass.Goals as goal
use Rattle.pg_explore_tally.proofs.streaks.pass.Goals.{then-branch, else-branch}

pub loop-place-preserved : goal.loop-place-preserved
loop-place-preserved c =
    let worlds = c.args.worlds.now in
    let marks = c.args.marks.now in
    let old = c.args.streaks.now in
    let i = c.loop-place.place in
    elim c.if-branch.branch as (λ _. IsTryingAll worlds marks (i + 1) old c.follow_all.new.streaks c.if-branch.changed) [
      | then-branch w ↦ subst (λ (b : Bool). IsTryingAll worlds marks (i + 1) old c.follow_all.new.streaks b) (sym w.changed-is)
          (tried_all_changed worlds marks (i + 1) old c.follow_all.new.streaks c.in_ok-follow_all.ensures.streaks)
      | else-branch w ↦ subst (λ (b : Bool). IsTryingAll worlds marks (i + 1) old c.follow_all.new.streaks b) (sym w.changed-is)
          (tried_all_same worlds marks i old c.loop-place.streaks c.follow_all.new.streaks c.loop-place.changed c.loop-place.invariant c.in_ok-follow_all.ensures.streaks
          (c.in_ok-follow_all.ensures.same (ap Ok w.if-branch.false)) (c.in_ok-follow_all.ensures.settled (ap Ok w.if-branch.false)))
    ]

pub returns-clause-settled : goal.returns-clause-settled
returns-clause-settled c = λ e.
    are_settled c.args.worlds.now c.args.marks.now c.loop-place.place c.args.streaks.now c.loop-place.streaks c.loop-place.changed c.loop-place.invariant c.loop-place-test.false (ok_same c.loop-place.changed false e)
