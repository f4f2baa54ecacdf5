-- The proof is that over the definitions.
use Rattle.pg_cluster_judges.proofs.Behind.{merges_with_losses}
use Rattle.pg_cluster_judges.proofs.laws.losses_stand_last.Goals as goal

pub returns : goal.returns
returns c = merges_with_losses
