use Rattle.pg_cluster.proofs.OneRun.{one_run}
use Rattle.pg_cluster.proofs.laws.threads_are_one_run.Goals as goal

pub returns : goal.returns
returns g c = one_run c.nodes_ran_together.ensures
