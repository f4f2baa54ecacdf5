use Rattle.std.proofs.Common.{◌≡◌, ◌<◌, ℕ}
use Rattle.std.specs.Prelude.{false, ◌&&◌, ◌||◌}
use Rattle.pg_cluster_judges.specs.Survivors.{has_event, is_change_of}
use Rattle.pg_cluster_judges.specs.Survivors.{is_missing, is_take_of, log_at, was_lost}
use Rattle.pg_cluster_judges.proofs.closed.survivors.is_of_lost.Given as goal

abbrev pub invariant-loop-node : goal.invariant-loop-node
invariant-loop-node l = (k : ℕ) → k < l.node → (was_lost l.lost k && (has_event (is_change_of l.name) (log_at l.logs k) || is_missing is_take_of l.lost l.logs k)) ≡ false
