use Rattle.pg_explore_survey.specs.Runs.{AreBack}
use Rattle.pg_explore_survey.proofs.hops.run_back.Given as goal

-- those so far lead to where it is
abbrev pub invariant-loop : goal.invariant-loop
invariant-loop l = AreBack l.mets l.place l.strides.items l.reached
