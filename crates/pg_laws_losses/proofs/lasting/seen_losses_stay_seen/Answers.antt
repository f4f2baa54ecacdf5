use Rattle.pg_laws_losses.proofs.Lasts.{seen_later}
use Rattle.pg_laws_losses.proofs.lasting.seen_losses_stay_seen.Goals as goal

pub returns : goal.returns
returns c = λ config w v events i peer l. seen_later config w v events i l peer
