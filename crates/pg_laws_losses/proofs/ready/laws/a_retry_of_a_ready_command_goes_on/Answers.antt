use Rattle.pg_laws_losses.proofs.Readiness.Going.{can_retry, goes_on}
use Rattle.pg_laws_losses.proofs.ready.laws.a_retry_of_a_ready_command_goes_on.Goals as goal

pub returns-clause-happens : goal.returns-clause-happens
returns-clause-happens c = λ config w events i op l ready here alive room. can_retry config events w i op l here alive room ready

pub returns-clause-goes : goal.returns-clause-goes
returns-clause-goes c = λ config w v events i op l ready happens. goes_on config events w v i op l ready happens
