use Rattle.pg_laws_losses.proofs.Onward.{applies_once}
use Rattle.pg_laws_losses.proofs.steps.updates_are_applied_once_past_losses.Goals as goal

pub returns : goal.returns
returns c = λ config m v d happens. applies_once config m v d happens
