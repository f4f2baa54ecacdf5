use Rattle.pg_laws_losses.proofs.Readiness.Ready.{of_ready}
use Rattle.pg_laws_losses.proofs.ready.laws.live_locks_are_of_ready_commands.Goals as goal

pub returns : goal.returns
returns c = λ config w events i name holder apart l quiet here lives is. of_ready config apart events w l quiet i here lives name holder is
