-- How the input of a script is read.
use Rattle.std.proofs.Common.{◌<◌, ℕ, List, [], ◌∷◌, ◌++◌, length, refl, ap}
use Rattle.pg_program.specs.Inputs.{GaveBytes}

-- no read was made
pub gave_none : {R : Type 0} (gives : R → List ℕ → R → Type 0) (old : R) → GaveBytes gives old old []
gave_none gives old = record { pieces = []; gave = refl; are = refl }

-- one read more
pub gave_more : {R : Type 0} (gives : R → List ℕ → R → Type 0) (old before new : R) (bytes piece : List ℕ) → GaveBytes gives old before bytes → gives before piece new → 0 < length piece
    → GaveBytes gives old new (bytes ++ piece)
gave_more gives old before new bytes piece g h some = record {
  pieces = piece ∷ g.pieces;
  gave = (before, g.gave, h, some);
  are = ap (λ (b : List ℕ). b ++ piece) g.are;
}
