-- A portion of a body as an inlet.
use Rattle.std.specs.Prelude.{◌≡◌, ℕ, List, [], ◌++◌, refl}
use Rattle.std.proofs.Common.{sym, append_assoc, ◌∙◌, ap}
use Rattle.std.proofs.lemmas.List.{append_cancel_right}
use Rattle.pg_node_process.specs.declared.pieces.Portion.{Portion}

-- the first bytes were given, and the rest is left
abbrev pub Yields : Portion → List ℕ → Portion → Type 0
Yields a bytes b = a.rest.now ≡ bytes ++ b.rest.now

-- nothing was given
pub Yields-rests : (a : Portion) → Yields a [] a
Yields-rests a = refl

-- one run of bytes was given, and then another
pub Yields-composes : (a b c : Portion) (xs ys : List ℕ) → Yields a xs b → Yields b ys c → Yields a (xs ++ ys) c
Yields-composes a b c xs ys p q = p ∙ ap (λ w. xs ++ w) q ∙ sym (append_assoc xs ys c.rest.now)

-- two runs that lead to the same portion are one
pub Yields-agrees : (a b : Portion) (xs ys : List ℕ) → Yields a xs b → Yields a ys b → xs ≡ ys
Yields-agrees a b xs ys p q = append_cancel_right xs ys b.rest.now (sym p ∙ q)
