use Rattle.pg_cluster_judges.proofs.SurvivorsAgreed.{survivors_agree}
use Rattle.pg_cluster_judges.proofs.closed.laws.survivors_of_one_run_agree.Goals as goal

pub returns : goal.returns
returns c = survivors_agree c.nodes_that_heard_the_lost_agree.ensures c.ended_processes_were_finished_past_losses.ensures
