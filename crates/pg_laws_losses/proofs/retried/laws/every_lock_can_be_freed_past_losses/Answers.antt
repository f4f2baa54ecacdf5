use Rattle.pg_laws_losses.proofs.Retrying.Freeing.{frees_all}
use Rattle.pg_laws_losses.proofs.retried.laws.every_lock_can_be_freed_past_losses.Goals as goal

pub returns : goal.returns
returns c = λ config w events apart l free. frees_all config apart events w l free
