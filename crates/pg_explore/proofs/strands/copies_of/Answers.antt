use Rattle.std.proofs.Common.{◌≡◌, ◌∷◌, ◌++◌, [], List, map, take, get_or, length, refl, sym, ap, ap₂, ◌∙◌, subst, ◌+◌}
use Rattle.std.proofs.lemmas.List.{map-append, take_more, length-map}
use Rattle.std.proofs.lemmas.Option.{get_or_from_slice_get, slice_get_read, slice_get_within}
use Rattle.pg_explore.specs.declared.strand.Strand.{Strand}
use Rattle.pg_explore.specs.Moments.{Progress, progress_of}
use Rattle.pg_explore.proofs.Counting.{map_at}
use Rattle.pg_explore.proofs.strands.copies_of.Goals as goal

pub loop-strand-preserved : goal.loop-strand-preserved
loop-strand-preserved c =
    let strands = c.args.strands.now in
    let i = c.loop-strand.strand-index in
    let strand = c.strand-item.result in
    let all = map progress_of strands in
    let at = map_at progress_of strands i strand (slice_get_read strands _ i strand refl c.loop-strand-test.true c.strand-item.is) in
    ap (map progress_of) c.in_ok-push.ensures.items
    ∙ map-append progress_of c.loop-strand.copies.items (c.in_ok-copy.field-0 ∷ [])
    ∙ ap₂ (λ (xs : List Progress) (p : Progress). xs ++ p ∷ []) c.loop-strand.invariant (c.in_ok-copy.ensures ∙ sym (get_or_from_slice_get all i (progress_of strand) (progress_of strand) at))
    ∙ sym (take_more all i (progress_of strand) (slice_get_within all i (progress_of strand) at))
