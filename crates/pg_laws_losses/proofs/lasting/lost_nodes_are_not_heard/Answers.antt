use Rattle.pg_laws_losses.proofs.Lasts.{unheard_later}
use Rattle.pg_laws_losses.proofs.lasting.lost_nodes_are_not_heard.Goals as goal

pub returns : goal.returns
returns c = unheard_later
