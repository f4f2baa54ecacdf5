use Rattle.std.proofs.Common.{◌≡◌, map, take}
use Rattle.pg_explore.specs.Moments.{progress_of}
use Rattle.pg_explore.proofs.strands.agree.Given as goal

-- those so far agree
abbrev pub invariant-loop-place : goal.invariant-loop-place
invariant-loop-place l = take l.place (map progress_of l.strands) ≡ take l.place (map progress_of l.others)
