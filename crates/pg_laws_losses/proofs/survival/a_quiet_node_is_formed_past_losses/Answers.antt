use Rattle.pg_laws_losses.proofs.Formation.{is_formed_live}
use Rattle.pg_laws_losses.proofs.survival.a_quiet_node_is_formed_past_losses.Goals as goal

pub returns : goal.returns
returns c = λ config w events i apart l quiet here lives. is_formed_live config apart events w l quiet i here lives
