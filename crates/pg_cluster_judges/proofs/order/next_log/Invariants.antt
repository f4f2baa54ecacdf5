use Rattle.std.proofs.Common.{map, slice_index}
use Rattle.pg_cluster_judges.specs.Merge.{clocks_in, rest_of}
use Rattle.pg_cluster_judges.proofs.Reading.{FirstBefore}
use Rattle.pg_cluster_judges.proofs.order.next_log.Given as goal

abbrev pub invariant-loop-i : goal.invariant-loop-i
invariant-loop-i g l = FirstBefore (rest_of (clocks_in (map (λ v. v.items) l.logs)) (λ j. slice_index l.read j)) l.i l.next l.least
