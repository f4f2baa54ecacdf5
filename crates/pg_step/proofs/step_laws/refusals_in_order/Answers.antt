use Rattle.pg_step.proofs.Refusals.{takes_in_order, acts_in_order}
use Rattle.pg_step.proofs.step_laws.refusals_in_order.Goals as goal

pub returns-clause-taken : goal.returns-clause-taken
returns-clause-taken c = takes_in_order

pub returns-clause-own : goal.returns-clause-own
returns-clause-own c = acts_in_order
