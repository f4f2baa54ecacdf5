use Rattle.std.proofs.Common.{map, length}
use Rattle.pg_cluster_judges.specs.Merge.{clocks_in}
use Rattle.pg_cluster_judges.proofs.Reading.{SoFar, unread}
use Rattle.pg_cluster_judges.proofs.order.order_of_logs.Given as goal

abbrev pub invariant-loop-i : goal.invariant-loop-i
invariant-loop-i g l = SoFar (length l.logs) (clocks_in (map (λ v. v.items) l.logs)) l.read.items l.order.items

abbrev pub decreases-loop-i : goal.decreases-loop-i
decreases-loop-i g l = unread (map (λ v. v.items) l.logs) l.read.items
