-- The proof is that over the definitions.
use Rattle.pg_cluster_judges.proofs.Losing.{losing_joined}
use Rattle.pg_cluster_judges.proofs.laws.losing_logs_join.Goals as goal

pub returns : goal.returns
returns g c = losing_joined
