use Rattle.std.proofs.Common.{◌≡◌, ◌++◌, drop, map}
use Rattle.pg_cluster_judges.specs.Schedule.{losing_steps, seen_step, steps_behind}
use Rattle.pg_cluster_judges.proofs.closed.schedule.steps_with_losses.Given as goal

-- what the entries that are left are goes behind the steps so far
abbrev pub invariant-loop-place : goal.invariant-loop-place
invariant-loop-place l = map seen_step l.steps.items ++ steps_behind (map (λ v. v.items) l.logs) l.lost (drop l.place l.order) ≡ losing_steps (map (λ v. v.items) l.logs) l.lost l.order
