use Rattle.std.proofs.Common.{◌≡◌, ◌<◌, ℕ, get_or}
use Rattle.std.specs.Prelude.{false}
use Rattle.pg_cluster_judges.specs.Survivors.{HasSame, was_lost}
use Rattle.pg_cluster_judges.proofs.closed.same.has_same_as_all.Given as goal

abbrev pub invariant-loop-place : goal.invariant-loop-place
invariant-loop-place l = (k : ℕ) (d : _) → k < l.place → was_lost l.lost k ≡ false → HasSame l.node (get_or l.nodes k d)
