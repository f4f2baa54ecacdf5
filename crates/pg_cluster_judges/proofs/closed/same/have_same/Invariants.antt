use Rattle.std.proofs.Common.{◌≡◌, ◌<◌, ℕ, get_or}
use Rattle.std.specs.Prelude.{false}
use Rattle.std.specs.List.{All}
use Rattle.pg_cluster_judges.specs.Survivors.{HasSame, survivors, was_lost}
use Rattle.pg_cluster_judges.proofs.closed.same.have_same.Given as goal

abbrev pub invariant-loop-place : goal.invariant-loop-place
invariant-loop-place l = (k : ℕ) (d : _) → k < l.place → was_lost l.lost k ≡ false → All (HasSame (get_or l.nodes k d)) (survivors l.lost l.nodes)
