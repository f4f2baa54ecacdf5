use Rattle.std.proofs.Common.{◌≡◌, ◌++◌, drop}
use Rattle.pg_explore_survey.specs.Findings.{ends_from}
use Rattle.pg_explore_survey.proofs.tally.ends_of.Given as goal

-- those so far, and those of the rest
abbrev pub invariant-loop-place : goal.invariant-loop-place
invariant-loop-place l = l.ends.items ++ ends_from l.place (drop l.place l.ways) ≡ ends_from 0 l.ways
