use Rattle.pg_laws_losses.proofs.Remains.Agreed.{agree}
use Rattle.pg_laws_losses.proofs.left.laws.nodes_that_heard_the_lost_agree.Goals as goal

pub returns : goal.returns
returns c = λ config w events i j x name apart l none. agree c.one_history_past_losses.ensures config apart events w l none i j x name
