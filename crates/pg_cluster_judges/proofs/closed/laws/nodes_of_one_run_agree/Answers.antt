use Rattle.pg_cluster_judges.proofs.Agreed.{agreed}
use Rattle.pg_cluster_judges.proofs.closed.laws.nodes_of_one_run_agree.Goals as goal

pub returns : goal.returns
returns c = agreed c.ended_processes_were_finished.ensures c.no_loss_is_seen.ensures
