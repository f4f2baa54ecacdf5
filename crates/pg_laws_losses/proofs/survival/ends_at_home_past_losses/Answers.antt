use Rattle.pg_laws_losses.proofs.Homes.{ended_at_home}
use Rattle.pg_laws_losses.proofs.survival.ends_at_home_past_losses.Goals as goal

pub returns : goal.returns
returns c = λ config w events i pid l here ended. ended_at_home config events w l i pid here ended
