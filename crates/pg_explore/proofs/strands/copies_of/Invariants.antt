use Rattle.std.proofs.Common.{◌≡◌, map, take}
use Rattle.pg_explore.specs.Moments.{progress_of}
use Rattle.pg_explore.proofs.strands.copies_of.Given as goal

abbrev pub invariant-loop-strand : goal.invariant-loop-strand
invariant-loop-strand l = map progress_of l.copies.items ≡ take l.strand-index (map progress_of l.strands)
