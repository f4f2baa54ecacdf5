use Rattle.pg_laws_losses.proofs.Onward.{refuses_exactly}
use Rattle.pg_laws_losses.proofs.steps.commands_are_refused_exactly_past_losses.Goals as goal

pub returns : goal.returns
returns c = λ config m v i port command happens. refuses_exactly config m v i port command happens
