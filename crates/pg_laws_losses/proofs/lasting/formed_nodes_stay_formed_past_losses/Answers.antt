use Rattle.pg_laws_losses.proofs.Lasts.{formed_later}
use Rattle.pg_laws_losses.proofs.lasting.formed_nodes_stay_formed_past_losses.Goals as goal

pub returns : goal.returns
returns c = λ config w v events i l. formed_later config w v events i l
