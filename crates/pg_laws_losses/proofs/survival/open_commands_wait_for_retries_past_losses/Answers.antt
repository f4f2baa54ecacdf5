use Rattle.pg_laws_losses.proofs.Retries.{waits_for_retries}
use Rattle.pg_laws_losses.proofs.survival.open_commands_wait_for_retries_past_losses.Goals as goal

pub returns : goal.returns
returns c = λ config w events i apart l quiet here lives. waits_for_retries config apart events w l quiet i here lives
