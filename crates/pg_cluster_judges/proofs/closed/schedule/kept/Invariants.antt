use Rattle.std.proofs.Common.{◌≡◌, map}
use Rattle.pg_cluster_judges.specs.Schedule.{keeps}
use Rattle.pg_cluster_judges.proofs.closed.schedule.kept.Given as goal

abbrev pub invariant-loop-other : goal.invariant-loop-other
invariant-loop-other l = l.keep.items ≡ keeps (map (λ v. v.items) l.logs) l.node l.later l.other
