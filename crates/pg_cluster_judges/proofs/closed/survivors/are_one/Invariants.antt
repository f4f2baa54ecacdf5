use Rattle.std.proofs.Common.{◌≡◌, ◌<◌, ℕ, get_or}
use Rattle.std.specs.Prelude.{true, false}
use Rattle.pg_cluster_judges.specs.Judges.{formed_in}
use Rattle.pg_cluster_judges.specs.Survivors.{AgreesOf, is_compared}
use Rattle.pg_cluster_judges.specs.Survivors.{survivors, was_lost}
use Rattle.pg_cluster_judges.proofs.closed.survivors.are_one.Given as goal

abbrev pub invariant-loop-place : goal.invariant-loop-place
invariant-loop-place l = (k : ℕ) (d : _) → k < l.place → was_lost l.lost k ≡ false → formed_in (get_or l.nodes k d) ≡ true → AgreesOf (is_compared (survivors l.lost l.nodes) l.lost l.logs) (survivors l.lost l.nodes) (get_or l.nodes k d)
