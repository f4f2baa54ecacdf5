use Rattle.pg_laws_losses.proofs.Lasts.{answers_later}
use Rattle.pg_laws_losses.proofs.lasting.answers_stay_past_losses.Goals as goal

pub returns : goal.returns
returns c = answers_later
