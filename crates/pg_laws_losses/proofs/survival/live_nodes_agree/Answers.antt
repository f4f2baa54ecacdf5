use Rattle.pg_laws_losses.proofs.Agreeing.{live_agree}
use Rattle.pg_laws_losses.proofs.survival.live_nodes_agree.Goals as goal

pub returns : goal.returns
returns c = λ config w events i j name apart l at_losses none here there ai aj fi fj si sj same. live_agree config apart events w l none at_losses i j name here there ai aj fi fj si sj same
