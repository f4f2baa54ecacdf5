use Rattle.pg_laws_losses.proofs.Survives.{applies_thinned}
use Rattle.pg_laws_losses.proofs.survival.histories_are_thinned.Goals as goal

pub returns : goal.returns
returns c = λ config w events i name apart l here lives. applies_thinned config apart events w l i name here lives
