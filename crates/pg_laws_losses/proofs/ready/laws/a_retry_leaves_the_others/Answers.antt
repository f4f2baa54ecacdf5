use Rattle.pg_laws_losses.proofs.Readiness.Retried.{retried_others}
use Rattle.pg_laws_losses.proofs.ready.laws.a_retry_leaves_the_others.Goals as goal

pub returns : goal.returns
returns c = λ config w v events i j op other l happens differ.
    retried_others config events w v l i op happens j other differ
