use Rattle.pg_laws_losses.proofs.Takes.{takes_end}
use Rattle.pg_laws_losses.proofs.survival.takes_end_past_losses.Goals as goal

pub returns : goal.returns
returns c = λ config w v events takes apart l only more. takes_end config apart events w l takes v only more
