use Rattle.pg_laws_losses.proofs.Readiness.Retried.{fewer_ready}
use Rattle.pg_laws_losses.proofs.ready.laws.retries_leave_fewer_ready.Goals as goal

pub returns : goal.returns
returns c = λ config w v events steps i op apart l seen more ready. fewer_ready config apart i op steps events w v l seen more ready
