use Rattle.std.proofs.Common.{◌≡◌, ◌<◌, ℕ}
use Rattle.std.specs.Prelude.{false, ◌&&◌}
use Rattle.pg_cluster_judges.specs.Survivors.{is_loss_of}
use Rattle.pg_cluster_judges.specs.Survivors.{is_missing, was_lost}
use Rattle.pg_cluster_judges.proofs.closed.survivors.is_loss_pending.Given as goal

abbrev pub invariant-loop-node : goal.invariant-loop-node
invariant-loop-node l = (k : ℕ) → k < l.node → (was_lost l.lost k && is_missing is_loss_of l.lost l.logs k) ≡ false
