use Rattle.pg_laws.proofs.steps.Lasting.{stay_formed}
use Rattle.pg_laws.proofs.lasting.formed_nodes_stay_formed.Goals as goal

pub returns : goal.returns
returns c = stay_formed
