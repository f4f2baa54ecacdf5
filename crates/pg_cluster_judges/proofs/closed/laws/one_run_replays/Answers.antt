use Rattle.pg_cluster_judges.proofs.Replaying.{run_there, there_replays}
use Rattle.pg_cluster_judges.proofs.closed.laws.one_run_replays.Goals as goal

pub returns : goal.returns
returns c = λ given nodes logs schedule run. there_replays c.each_world_past_losses.ensures given nodes schedule (run_there given nodes logs schedule run)
