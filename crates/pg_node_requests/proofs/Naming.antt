-- Names of nodes, one after another.
use Rattle.std.proofs.Common.{◌≡◌, ◌<◌, ◌+◌, ℕ, List, [], ◌∷◌, ◌++◌, length, inl, inr, sym, ap, ◌∙◌, arith}
use Rattle.std.proofs.Math.ListN.{get_or-append}
use Rattle.std.proofs.lemmas.Bool.Decides.{eqb_tells}
use Rattle.std.proofs.lemmas.List.{get_or_push, length_push}
use Rattle.pg_node_requests.specs.Members.{AreNumbered, node_name}

-- one name more, with the next number
pub numbered_push : (names : List (List ℕ)) (name : List ℕ) → AreNumbered names → name ≡ node_name (length names + 1) → AreNumbered (names ++ name ∷ [])
numbered_push names name all here i none low = elim (eqb_tells i (length names)) [
  | inl t ↦ get_or_push names name none i (sym t.1) ∙ here ∙ ap (λ k. node_name (k + 1)) (sym t.1)
  | inr f ↦
      let less : i < length names = let n = length_push names name in omega (arith, f.1, n, low) in
      get_or-append names (name ∷ []) none i less ∙ all i none less
]
