use Rattle.pg_laws_losses.proofs.Unheld.{no_lock_of_lost}
use Rattle.pg_laws_losses.proofs.survival.no_lock_of_the_lost.Goals as goal

pub returns : goal.returns
returns c = λ config w events i apart l there. no_lock_of_lost config apart events w i l there
