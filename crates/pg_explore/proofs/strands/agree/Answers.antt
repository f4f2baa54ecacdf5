use Rattle.std.proofs.Common.{◌≡◌, ◌<◌, ◌+◌, ◌∙◌, Bool, true, false, List, ℕ}
use Rattle.std.proofs.Common.{map, take, length, refl, sym, ap, subst, arith}
use Rattle.std.proofs.lemmas.List.{take_more_same}
use Rattle.std.proofs.lemmas.Option.{get_or_from_slice_get, slice_get_read, slice_get_within}
use Rattle.std.specs.Prelude.{Some, slice_get}
use Rattle.pg_explore.specs.Moments.{Progress, progress_of}
use Rattle.pg_explore.proofs.Counting.{map_at}
use Rattle.pg_explore.proofs.Optional.{some_is}
use Rattle.pg_explore.proofs.strands.agree.Goals as goal

one_more : (xs ys : List Progress) (i : ℕ) (x y : Progress) → slice_get xs i ≡ Some x → slice_get ys i ≡ Some y → x ≡ y → take i xs ≡ take i ys → take (i + 1) xs ≡ take (i + 1) ys
one_more xs ys i x y at here e h =
    take_more_same xs ys i x (slice_get_within xs i x at) (slice_get_within ys i y here) h (get_or_from_slice_get xs i x x at ∙ e ∙ sym (get_or_from_slice_get ys i y x here))

pub returns-then-not-same : goal.returns-then-not-same
returns-then-not-same c =
    let strands = c.args.strands.now in
    let others = c.args.others.now in
    let i = c.loop-place.place in
    let strand = c.index-strands-place.result in
    let other = c.index-others-place.result in
    let within : i < length strands = omega (arith, c.loop-place-test.true, c.loop-place.auto.place-end) in
    let beside : i < length others = omega (arith, within, c.requires) in
    let at = map_at progress_of strands i strand (slice_get_read strands _ i strand refl within c.index-strands-place.is) in
    let here = map_at progress_of others i other (slice_get_read others _ i other refl beside c.index-others-place.is) in (
      λ t. let bad : false ≡ true = t in absurd (cc),
      λ e. sym c.if-not-same.true ∙ c.same.ensures.1 (some_is _ _ (sym at ∙ ap (λ (xs : List Progress). slice_get xs i) e ∙ here)),
    )

pub loop-place-preserved : goal.loop-place-preserved
loop-place-preserved c =
    let strands = c.args.strands.now in
    let others = c.args.others.now in
    let i = c.loop-place.place in
    let strand = c.index-strands-place.result in
    let other = c.index-others-place.result in
    let within : i < length strands = omega (arith, c.loop-place-test.true, c.loop-place.auto.place-end) in
    let beside : i < length others = omega (arith, within, c.requires) in
    let at = map_at progress_of strands i strand (slice_get_read strands _ i strand refl within c.index-strands-place.is) in
    let here = map_at progress_of others i other (slice_get_read others _ i other refl beside c.index-others-place.is) in
    one_more (map progress_of strands) (map progress_of others) i (progress_of strand) (progress_of other) at here (c.same.ensures.0 c.if-not-same.false) c.loop-place.invariant
