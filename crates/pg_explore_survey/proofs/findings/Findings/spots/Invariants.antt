use Rattle.pg_explore_survey.specs.Findings.{AreSpots}
use Rattle.pg_explore_survey.proofs.findings.Findings.spots.Given as goal

abbrev pub invariant-loop-place : goal.invariant-loop-place
invariant-loop-place l = AreSpots l.self l.place l.spots.items
