use Rattle.pg_laws_losses.proofs.Readiness.Retried.{no_lock}
use Rattle.pg_laws_losses.proofs.ready.laws.no_lock_where_none_is_ready.Goals as goal

pub returns : goal.returns
returns c = λ config w events apart l quiet none. no_lock config apart events w l quiet none
