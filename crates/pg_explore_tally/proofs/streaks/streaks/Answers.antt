use Rattle.std.proofs.Common.{Ok, List, length, ap, sym, subst, ◌∙◌}
use Rattle.pg_explore_tally.specs.declared.streaks.Streak.{Streak}
use Rattle.pg_explore_tally.specs.Runs.{AreSettled, AreStreaks}
use Rattle.pg_explore_tally.proofs.Passing.{are_alone}
use Rattle.pg_explore_tally.proofs.Walking.{slice_left}
use Rattle.pg_explore_tally.proofs.streaks.streaks.Goals as goal

pub loop-init : goal.loop-init
loop-init c = subst (λ (xs : List Streak). AreStreaks c.args.worlds.now c.args.marks.now xs) (sym c.in_ok-streaks.ensures) (are_alone c.args.worlds.now c.args.marks.now)

pub returns-then-not-branch-clause-settled : goal.returns-then-not-branch-clause-settled
returns-then-not-branch-clause-settled c =
    let old = c.loop.streaks in
    subst (λ (xs : List Streak). AreSettled c.args.worlds.now xs) (sym (slice_left old.len c.pass.new.streaks old.items old.ok.0 (c.pass.auto.streaks ∙ ap length c.as_mut_slice.ensures.value)))
    (c.in_ok-pass.ensures.settled (ap Ok c.if-not-branch.true))
