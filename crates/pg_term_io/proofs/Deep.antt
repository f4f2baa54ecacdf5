-- How deep the elements of a tuple or a list nest.
use Rattle.std.proofs.Common.{◌≡◌, ℕ, zero, suc, ◌+◌, ◌<◌, ◌≤◌, max, List, [], ◌∷◌}
use Rattle.std.proofs.Common.{◌++◌, length, get_or, take, ap, sym, ◌∙◌, arith}
use Rattle.std.proofs.lemmas.List.{take_more}
use Rattle.pg_term.specs.declared.term.Term.{Term}
use Rattle.pg_term.specs.Depth.{depth, greatest_depth}

pub greatest_push : (ts : List Term) (t : Term) → greatest_depth (ts ++ t ∷ []) ≡ max (greatest_depth ts) (depth t)
greatest_push [] t = omega arith
greatest_push (u ∷ ts) t = omega (arith, greatest_push ts t)

pub part_depth : (ts : List Term) (i : ℕ) (d : Term) → i < length ts → depth (get_or ts i d) ≤ greatest_depth ts
part_depth [] i d h = absurd (omega arith)
part_depth (t ∷ ts) zero d h = omega arith
part_depth (t ∷ ts) (suc i) d h = omega (arith, part_depth ts i d (omega arith))

-- one element more is walked
pub depth_more : (ts : List Term) (i : ℕ) (t : Term) → i < length ts → t ≡ get_or ts i t → greatest_depth (take (i + 1) ts) ≡ max (greatest_depth (take i ts)) (depth t)
depth_more ts i t h e =
    ap greatest_depth (take_more ts i t h ∙ ap (λ (u : Term). take i ts ++ u ∷ []) (sym e)) ∙ greatest_push (take i ts) t
