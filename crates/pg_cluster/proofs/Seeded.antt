-- Generators by their places.
use Rattle.std.proofs.Common.{◌≡◌, ◌<◌, ℕ, List, [], ◌∷◌, ◌++◌, length}
use Rattle.std.proofs.Common.{sym, ◌∙◌, ap, arith, inl, inr, length-append}
use Rattle.std.proofs.lemmas.Bool.Decides.{eqb_tells}
use Rattle.std.proofs.lemmas.List.{get_or_push}
use Rattle.std.proofs.Math.ListN.{get_or-append}
use Rattle.rand_pcg.specs.Lcg.{Lcg}
use Rattle.pg_cluster.specs.Seeds.{AreSeeded, generator_at}

-- one more
pub seeded_more : (seed : ℕ) (xs : List Lcg) (x : Lcg) → AreSeeded seed xs → x ≡ generator_at seed (length xs) → AreSeeded seed (xs ++ x ∷ [])
seeded_more seed xs x all here k d low = elim (eqb_tells k (length xs)) [
  | inl t ↦ get_or_push xs x d k (sym t.1) ∙ (here ∙ ap (generator_at seed) (sym t.1))
  | inr f ↦
      let less : k < length xs = let n = length-append xs (x ∷ []) in omega (arith, f.1, n, low) in
      get_or-append xs (x ∷ []) d k less ∙ all k d less
]
