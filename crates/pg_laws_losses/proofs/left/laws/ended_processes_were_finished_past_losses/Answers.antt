use Rattle.pg_laws_losses.proofs.Remains.Finishing.{own_finished}
use Rattle.pg_laws_losses.proofs.left.laws.ended_processes_were_finished_past_losses.Goals as goal

pub returns : goal.returns
returns c = λ config w events i pid apart l. own_finished config apart events w l i pid
