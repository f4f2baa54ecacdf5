use Rattle.pg_laws_losses.proofs.Readiness.Retried.{locks_freed, none_ready}
use Rattle.pg_laws_losses.proofs.ready.laws.retries_free_the_locks.Goals as goal

pub returns-clause-ready : goal.returns-clause-ready
returns-clause-ready c = λ config w v events steps apart l seen more each. none_ready config apart events w v l steps seen more each

pub returns-clause-locks : goal.returns-clause-locks
returns-clause-locks c = λ config w v events steps apart l seen more each quiet. locks_freed config apart events w v l steps seen more each quiet
