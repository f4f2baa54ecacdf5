-- The proof is that over the definitions.
use Rattle.pg_cluster_judges.proofs.Seen.{same_clocks, same_merge}
use Rattle.pg_cluster_judges.proofs.laws.seen_logs_merge_alike.Goals as goal

pub returns-clause-clocks : goal.returns-clause-clocks
returns-clause-clocks g c = same_clocks

pub returns-clause-merged : goal.returns-clause-merged
returns-clause-merged g c = same_merge
