use Rattle.std.proofs.Common.{◌≡◌, ◌++◌, length}
use Rattle.pg_explore_survey.specs.Scenarios.{ArePlans}
use Rattle.pg_explore_survey.proofs.scenario.plans_of.Given as goal

-- what the lines so far plan
abbrev pub invariant-loop-line : goal.invariant-loop-line
invariant-loop-line l = record {
  len : length l.plans.items ≡ l.count;
  plans : ArePlans l.yielded l.plans.items;
  rest : l.yielded ++ l.line-iterator.rest.items ≡ l.fn.lines.items;
}
