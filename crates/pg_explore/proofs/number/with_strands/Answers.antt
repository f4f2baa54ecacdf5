use Rattle.std.proofs.Common.{map, refl}
use Rattle.std.proofs.lemmas.Option.{slice_get_read}
use Rattle.pg_explore.specs.Moments.{progress_of}
use Rattle.pg_explore.specs.Numbers.{mixed_progress}
use Rattle.pg_explore.proofs.Counting.{fold_more, map_at}
use Rattle.pg_explore.proofs.number.with_strands.Goals as goal

pub loop-strand-preserved : goal.loop-strand-preserved
loop-strand-preserved c =
    let strands = c.args.strands.now in
    let i = c.loop-strand.strand-index in
    fold_more mixed_progress (map progress_of strands) i _ _ _ (progress_of c.strand-item.result)
    (map_at progress_of strands i c.strand-item.result (slice_get_read strands _ i c.strand-item.result refl c.loop-strand-test.true c.strand-item.is)) c.loop-strand.invariant c.with_strand-mixed.ensures
