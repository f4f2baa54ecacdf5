-- The proof is that over the definitions.
use Rattle.pg_cluster_judges.proofs.Joining.{joined}
use Rattle.pg_cluster_judges.proofs.laws.logs_join.Goals as goal

pub returns : goal.returns
returns g c = joined
