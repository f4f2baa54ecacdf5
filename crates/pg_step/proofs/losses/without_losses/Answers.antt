use Rattle.pg_step.proofs.Unnoticed.{without_losses}
use Rattle.pg_step.proofs.losses.without_losses.Goals as goal

pub returns : goal.returns
returns c = without_losses
