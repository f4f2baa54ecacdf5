-- Folds that go on.
use Rattle.std.proofs.Common.{◌≡◌, ◌<◌, ◌≤◌, ℕ, zero, suc, ◌+◌, List, [], ◌∷◌, map, drop}
use Rattle.std.proofs.Common.{length, Option, Some, None, add-one, refl, sym, ap, ◌∙◌, subst}
use Rattle.std.proofs.lemmas.List.{drop_all}
use Rattle.std.proofs.lemmas.Option.{slice_get-map}
use Rattle.std.specs.Prelude.{fold, slice_get, option_map}

some_is : {B : Type 0} (a b : B) → Some a ≡ Some b → a ≡ b
some_is a b e = cc

step : {B C : Type 0} (f : C → B → C) (xs : List B) (i : ℕ) (c d e : C) (x : B) → slice_get xs i ≡ Some x → fold f c (drop i xs) ≡ e → d ≡ f c x → fold f d (drop (suc i) xs) ≡ e
step f [] i c d e x at h is = absurd (cc)
step f (y ∷ xs) zero c d e x at h is = ap (λ a. fold f a xs) (is ∙ ap (f c) (sym (some_is y x at))) ∙ h
step f (y ∷ xs) (suc i) c d e x at h is = step f xs i c d e x at h is

-- an item more
pub fold_more : {B C : Type 0} (f : C → B → C) (xs : List B) (i : ℕ) (c d e : C) (x : B) → slice_get xs i ≡ Some x → fold f c (drop i xs) ≡ e → d ≡ f c x → fold f d (drop (i + 1) xs) ≡ e
fold_more f xs i c d e x at h is = subst (λ n. fold f d (drop n xs) ≡ e) (sym (add-one i)) (step f xs i c d e x at h is)

-- all items
pub fold_all : {B C : Type 0} (f : C → B → C) (xs : List B) (n : ℕ) (c e : C) → length xs ≤ n → fold f c (drop n xs) ≡ e → c ≡ e
fold_all f xs n c e past h = sym (ap (fold f c) (drop_all n xs past)) ∙ h

pub map_at : {A B : Type 0} (v : A → B) (xs : List A) (i : ℕ) (x : A) → slice_get xs i ≡ Some x → slice_get (map v xs) i ≡ Some (v x)
map_at v xs i x at = slice_get-map v xs i ∙ ap (option_map v) at
