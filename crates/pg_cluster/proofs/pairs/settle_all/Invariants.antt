use Rattle.std.proofs.Common.{length, vec_len}
use Rattle.pg_cluster.proofs.Popping.{AreLeft, ArrivedFrom}
use Rattle.pg_cluster.proofs.pairs.settle_all.Given as goal

abbrev pub invariant-loop-row : goal.invariant-loop-row
invariant-loop-row l = AreLeft l.fn.rows.items l.rows.items × ArrivedFrom l.fn.rows.items (length l.rows.items)

abbrev pub decreases-loop-row : goal.decreases-loop-row
decreases-loop-row l = vec_len l.rows
