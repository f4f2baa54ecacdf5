use Rattle.pg_laws_losses.proofs.Survives.{survives}
use Rattle.pg_laws_losses.proofs.survival.tables_are_replayed_past_losses.Goals as goal

pub returns : goal.returns
returns c = λ config w events apart l at_losses. survives config apart events w l at_losses
