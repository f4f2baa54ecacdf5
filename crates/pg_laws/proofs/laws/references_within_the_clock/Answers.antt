use Rattle.pg_laws.proofs.references.Renewed.{step_makes_two, few_references}
use Rattle.pg_laws.proofs.laws.references_within_the_clock.Goals as goal

pub returns-clause-step : goal.returns-clause-step
returns-clause-step c = step_makes_two

pub returns-clause-reached : goal.returns-clause-reached
returns-clause-reached c = λ config w events i l. few_references config events w l i
