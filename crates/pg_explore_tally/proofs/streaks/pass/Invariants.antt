use Rattle.pg_explore_tally.proofs.Passing.{IsTryingAll}
use Rattle.pg_explore_tally.proofs.streaks.pass.Given as goal

-- the ways from so many places were followed
abbrev pub invariant-loop-place : goal.invariant-loop-place
invariant-loop-place l = IsTryingAll l.worlds l.marks l.place l.fn.streaks l.streaks l.changed
