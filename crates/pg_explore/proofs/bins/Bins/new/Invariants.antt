use Rattle.std.proofs.Common.{◌≡◌, length}
use Rattle.pg_explore.proofs.bins.Bins.new.Given as goal

abbrev pub invariant-loop-place : goal.invariant-loop-place
invariant-loop-place l = length l.bins.items ≡ l.place
