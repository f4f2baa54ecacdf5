use Rattle.std.proofs.Common.{◌≡◌, ◌<◌, ◌-◌, ℕ, Bool, true, false, List, length, map, refl, sym, ap, ◌∙◌, subst}
use Rattle.std.proofs.lemmas.Bool.{lt-ltb, ltb-true}
use Rattle.std.proofs.lemmas.Option.{slice_get_read}
use Rattle.std.specs.Prelude.{Option, Some, None, slice_get}
use Rattle.pg_explore.specs.Listings.{MayRetry}
use Rattle.pg_explore.specs.Moments.{Progress, progress_of}
use Rattle.pg_explore.proofs.Counting.{map_at}
use Rattle.pg_explore.proofs.Optional.{some_is}
use Rattle.pg_explore.proofs.listing.may_retry.Goals as goal

-- what may be tried again was made so often
made_of : (most : ℕ) (progress : List Progress) (i number : ℕ) (strand : Progress) → slice_get progress i ≡ Some strand → (h : MayRetry most progress i number) → slice_get strand.retries (number - 1) ≡ Some h.1
made_of most progress i number strand at h = ap (λ (s : Progress). slice_get s.retries (number - 1)) (some_is strand h.0 (sym at ∙ h.2)) ∙ h.3

none_some : (n : ℕ) → None ≡ Some n → ⊥
none_some n e = absurd (cc)

pub returns-in-Some : goal.returns-in-Some
returns-in-Some c =
    let strands = c.args.moment.now.strands.items in
    let strand = c.index-strand.result.now in
    let at = map_at progress_of strands c.args.node strand (slice_get_read strands _ c.args.node strand refl c.requires c.index-strand.ensures) in
    let here : slice_get strand.retries.items (c.args.number - 1) ≡ Some c.in-Some.made = sym c.retries_of.ensures ∙ c.in-Some.is in (
      λ t. (progress_of strand, c.in-Some.made, at, here, ltb-true c.in-Some.made c.args.limits.retries t),
      λ h. let same : h.1 ≡ c.in-Some.made = some_is h.1 c.in-Some.made (sym (made_of c.args.limits.retries (map progress_of strands) c.args.node c.args.number (progress_of strand) at h) ∙ here) in
          lt-ltb c.in-Some.made c.args.limits.retries (subst (λ n. n < c.args.limits.retries) same h.4),
    )

pub returns-in-None : goal.returns-in-None
returns-in-None c =
    let strands = c.args.moment.now.strands.items in
    let strand = c.index-strand.result.now in
    let at = map_at progress_of strands c.args.node strand (slice_get_read strands _ c.args.node strand refl c.requires c.index-strand.ensures) in (
      λ t. let bad : false ≡ true = t in absurd (cc),
      λ h. let bad = sym c.in-None.is ∙ c.retries_of.ensures ∙ made_of c.args.limits.retries (map progress_of strands) c.args.node c.args.number (progress_of strand) at h in absurd (none_some _ bad),
    )
