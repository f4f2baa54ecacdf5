use Rattle.pg_explore_tally.proofs.Walking.{IsPassing}
use Rattle.pg_explore_tally.proofs.takes.pass.Given as goal

-- the ways from so many places were followed
abbrev pub invariant-loop-place : goal.invariant-loop-place
invariant-loop-place l = IsPassing l.worlds l.place l.fn.takes l.takes l.changed
