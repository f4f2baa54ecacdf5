use Rattle.std.proofs.Common.{◌≡◌, map}
use Rattle.pg_cluster_judges.specs.Schedule.{losses_first, seen_step}
use Rattle.pg_cluster_judges.proofs.closed.schedule.first_losses.Given as goal

abbrev pub invariant-loop-node : goal.invariant-loop-node
invariant-loop-node l = map seen_step l.steps.items ≡ losses_first (map (λ v. v.items) l.logs) l.lost l.order l.node
