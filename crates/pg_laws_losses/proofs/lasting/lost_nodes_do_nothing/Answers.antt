use Rattle.pg_laws_losses.proofs.Lasts.{lost_for_good, lost_still, lost_silent}
use Rattle.pg_laws_losses.proofs.lasting.lost_nodes_do_nothing.Goals as goal

pub returns : goal.returns
returns c = λ config w v events i gone l. (lost_for_good config w v events i gone l, lost_still config w v events i gone l, lost_silent config w v events i gone l)
