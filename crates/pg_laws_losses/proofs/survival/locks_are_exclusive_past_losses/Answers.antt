use Rattle.pg_laws_losses.proofs.Survives.{exclusive}
use Rattle.pg_laws_losses.proofs.survival.locks_are_exclusive_past_losses.Goals as goal

pub returns : goal.returns
returns c = λ config w events apart l. exclusive config apart events w l
