use Rattle.pg_cluster.proofs.OneRun.{losing_run}
use Rattle.pg_cluster.proofs.laws.threads_are_one_losing_run.Goals as goal

pub returns : goal.returns
returns g c = losing_run c.nodes_ran_together_past_losses.ensures c.each_world_past_losses.ensures
