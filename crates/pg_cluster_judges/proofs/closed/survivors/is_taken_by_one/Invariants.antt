use Rattle.std.proofs.Common.{◌≡◌, ◌<◌, ℕ, get_or}
use Rattle.std.specs.Prelude.{false}
use Rattle.pg_cluster_judges.specs.Judges.{state_in}
use Rattle.pg_cluster_judges.specs.Survivors.{was_lost}
use Rattle.pg_cluster_judges.proofs.closed.survivors.is_taken_by_one.Given as goal

abbrev pub invariant-loop-place : goal.invariant-loop-place
invariant-loop-place l = (k : ℕ) (d : _) → k < l.place → was_lost l.lost k ≡ false → (state_in (get_or l.nodes k d)).ended l.pid ≡ false
