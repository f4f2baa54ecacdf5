use Rattle.pg_laws_losses.proofs.Survives.{no_odd_reply}
use Rattle.pg_laws_losses.proofs.survival.no_reply_is_odd.Goals as goal

pub returns : goal.returns
returns c = λ config w events apart l. no_odd_reply config apart events w l
