use Rattle.std.proofs.Common.{◌≡◌, drop, map}
use Rattle.std.specs.Prelude.{fold}
use Rattle.pg_explore.specs.Moments.{progress_of}
use Rattle.pg_explore.specs.Numbers.{mixed_progress}
use Rattle.pg_explore.proofs.number.with_strands.Given as goal

-- the rest leads to the whole
abbrev pub invariant-loop-strand : goal.invariant-loop-strand
invariant-loop-strand l = fold mixed_progress l.mixed (drop l.strand-index (map progress_of l.strands)) ≡ fold mixed_progress 0 (map progress_of l.strands)
