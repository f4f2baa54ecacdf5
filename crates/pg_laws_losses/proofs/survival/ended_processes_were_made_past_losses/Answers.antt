use Rattle.pg_laws_losses.proofs.OwnEnds.{own_ends_made}
use Rattle.pg_laws_losses.proofs.survival.ended_processes_were_made_past_losses.Goals as goal

pub returns : goal.returns
returns c = λ config w events i pid apart l. own_ends_made config apart events w l i pid
