use Rattle.std.proofs.Common.{◌≡◌, ◌≤◌, map, take}
use Rattle.pg_cluster_judges.specs.Merge.{log_at}
use Rattle.pg_cluster_judges.specs.ApartWithLosses.{takes_in}
use Rattle.pg_cluster_judges.proofs.closed.schedule.taken_in.Given as goal

-- no more than the entries so far
abbrev pub invariant-loop-place : goal.invariant-loop-place
invariant-loop-place l = (l.count ≡ takes_in (log_at (map (λ v. v.items) l.logs)) l.peer l.node (take l.place l.later)) × (l.count ≤ l.place)
