-- The proof is that over the definitions.
use Rattle.pg_cluster_judges.proofs.Once.{one_order}
use Rattle.pg_cluster_judges.proofs.laws.merge_is_one.Goals as goal

pub returns : goal.returns
returns c = λ size clocks order others. one_order size clocks (λ i. 0) order others
