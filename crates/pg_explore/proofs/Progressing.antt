-- How far plans have come.
use Rattle.std.proofs.Common.{◌≡◌, ℕ, zero, suc, ◌<◌, ◌≤◌, List, [], ◌∷◌}
use Rattle.std.proofs.Common.{length, map, refl, sym, ap, ◌∙◌, arith, get_or}
use Rattle.std.specs.Prelude.{slice_set, slice_index_or}
use Rattle.pg_explore.specs.declared.moves.Move.{Move}
use Rattle.pg_explore.specs.declared.moves.Move.TheVariants.{Take, Next, Loss, Retry, SeeLoss}
use Rattle.pg_explore.specs.Moments.{Progress, change_at, progress_after}

-- what a write at a place changes
pub changed : {A B : Type 0} (f : A → B) (change : B → B) (xs : List A) (i : ℕ) (x y : A) → i < length xs → f y ≡ change (f (get_or xs i x))
    → map f (slice_set xs i y) ≡ change_at i change (map f xs)
changed f change [] i x y l e = absurd (omega (arith, l))
changed f change (a ∷ xs) zero x y l e = λ j. e j ∷ map f xs
changed f change (a ∷ xs) (suc i) x y l e = ap (λ ys. f a ∷ ys) (changed f change xs i x y (omega (arith, l)) e)

pub changed_plain : {A : Type 0} (change : A → A) (xs : List A) (i : ℕ) (x y : A) → i < length xs → y ≡ change (get_or xs i x) → slice_set xs i y ≡ change_at i change xs
changed_plain change [] i x y l e = absurd (omega (arith, l))
changed_plain change (a ∷ xs) zero x y l e = λ j. e j ∷ xs
changed_plain change (a ∷ xs) (suc i) x y l e = ap (λ ys. a ∷ ys) (changed_plain change xs i x y (omega (arith, l)) e)

-- past the end nothing is changed
pub unchanged : {A : Type 0} (change : A → A) (xs : List A) (i : ℕ) → length xs ≤ i → change_at i change xs ≡ xs
unchanged change [] i l = refl
unchanged change (x ∷ xs) zero l = absurd (omega (arith, l))
unchanged change (x ∷ xs) (suc i) l = ap (λ ys. x ∷ ys) (unchanged change xs i (omega (arith, l)))

length_changed : {A : Type 0} (i : ℕ) (change : A → A) (xs : List A) → length (change_at i change xs) ≡ length xs
length_changed i change [] = refl
length_changed zero change (x ∷ xs) = refl
length_changed (suc i) change (x ∷ xs) = ap suc (length_changed i change xs)

-- a step leaves as many plans
pub length_after : (step : Move) (progress : List Progress) → length (progress_after step progress) ≡ length progress
length_after (Take i p) progress = refl
length_after (Next i) progress = length_changed i _ progress
length_after (Loss i keep) progress = length_changed i _ progress
length_after (Retry i op) progress = length_changed i _ progress
length_after (SeeLoss i p) progress = refl
