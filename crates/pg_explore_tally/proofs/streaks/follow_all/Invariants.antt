use Rattle.pg_explore_tally.proofs.Passing.{IsTrying}
use Rattle.pg_explore_tally.proofs.streaks.follow_all.Given as goal

-- so many ways were followed
abbrev pub invariant-loop-way : goal.invariant-loop-way
invariant-loop-way l = IsTrying l.worlds l.marks l.place l.way l.fn.streaks l.streaks l.changed
