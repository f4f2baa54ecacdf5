use Rattle.pg_laws_losses.proofs.RealTime.{order}
use Rattle.pg_laws_losses.proofs.lasting.histories_go_by_real_time_past_losses.Goals as goal

pub returns : goal.returns
returns c = λ config w m events first last l is reached. order config w m events first last l is reached
