use Rattle.std.proofs.Common.{◌≡◌, map, replicate}
use Rattle.pg_explore.specs.Moments.{no_progress, progress_of}
use Rattle.pg_explore.proofs.strands.idle_strands.Given as goal

abbrev pub invariant-loop-place : goal.invariant-loop-place
invariant-loop-place l = map progress_of l.strands.items ≡ replicate l.place no_progress
