use Rattle.pg_laws_losses.proofs.Lasts.{ended_later}
use Rattle.pg_laws_losses.proofs.lasting.ends_stay_taken_past_losses.Goals as goal

pub returns : goal.returns
returns c = λ config w v events i pid l. ended_later config w v events i l pid
