use Rattle.pg_step.specs.Config.{nodes_at}
use Rattle.pg_step.specs.Machines.Clocked.{plain}
use Rattle.pg_laws.proofs.steps.Lossless.{live_all, nobody_timed}
use Rattle.pg_laws.proofs.laws.no_loss_is_seen.Goals as goal

pub returns : goal.returns
returns c = λ config w events i l. live_all (nodes_at config i) ((plain w).node i) (nobody_timed config events w l i)
