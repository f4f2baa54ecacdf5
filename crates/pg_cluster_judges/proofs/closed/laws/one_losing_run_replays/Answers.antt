use Rattle.pg_cluster_judges.proofs.Replaying.{losing_run_there, there_replays}
use Rattle.pg_cluster_judges.proofs.closed.laws.one_losing_run_replays.Goals as goal

pub returns : goal.returns
returns c = λ given lost nodes schedule run. there_replays c.each_world_past_losses.ensures given nodes schedule (losing_run_there given lost nodes schedule run)
