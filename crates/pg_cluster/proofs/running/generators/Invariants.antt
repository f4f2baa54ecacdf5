use Rattle.std.proofs.Common.{◌≡◌, length}
use Rattle.std.specs.Prelude.{vec_capacity}
use Rattle.pg_cluster.specs.Seeds.{AreSeeded}
use Rattle.pg_cluster.proofs.running.generators.Given as goal

abbrev pub invariant-loop-place : goal.invariant-loop-place
invariant-loop-place l = (length l.all.items ≡ l.place) × (vec_capacity l.all ≡ l.count) × AreSeeded l.seed l.all.items
