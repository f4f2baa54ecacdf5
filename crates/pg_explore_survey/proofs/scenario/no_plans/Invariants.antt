use Rattle.std.proofs.Common.{◌≡◌, length}
use Rattle.pg_explore_survey.proofs.Planning.{AreEmpty}
use Rattle.pg_explore_survey.proofs.scenario.no_plans.Given as goal

abbrev pub invariant-loop : goal.invariant-loop
invariant-loop l = (length l.plans.items ≡ l.counter) × AreEmpty l.plans.items
