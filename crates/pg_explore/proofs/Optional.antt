-- Values that may be there.
use Rattle.std.proofs.Common.{◌≡◌, ◌<◌, ℕ, zero, suc, Bool, true, false, List}
use Rattle.std.proofs.Common.{[], ◌∷◌, length, refl, sym, ap, ◌∙◌, subst, arith}
use Rattle.std.specs.Prelude.{Option, Some, None, IsSome, IfSome, is_some, slice_get, option_map}
use Rattle.std.specs.Option.{option_map_or}

pub some_by : {A : Type 0} (o : Option A) (b : Bool) → is_some o ≡ b → b ≡ true → IsSome o
some_by None b e t = let bad : false ≡ true = e ∙ t in absurd (cc)
some_by (Some x) b e t = refl

pub if_some_at : {A : Type 0} (o : Option A) (x : A) (P : A → Type 0) → o ≡ Some x → IfSome o P → P x
if_some_at {A = A} o x P e h = subst (λ (p : Option A). IfSome p P) e h

-- what stands within a list
pub inside_some : {A : Type 0} (xs : List A) (i : ℕ) → i < length xs → (x : A) × (slice_get xs i ≡ Some x)
inside_some [] i l = absurd (omega (arith, l))
inside_some (x ∷ xs) zero l = (x, refl)
inside_some (x ∷ xs) (suc i) l = inside_some xs i (omega (arith, l))

-- a function of what a value is seen as
pub seen_or : {A B C : Type 0} (v : A → B) (f : B → C) (o : Option A) (d : C) (y : B) → option_map v o ≡ Some y → option_map_or (λ x. f (v x)) o d ≡ f y
seen_or v f None d y e = absurd (cc)
seen_or v f (Some x) d y e = ap f (some_is (v x) y e)
  where
    some_is : {D : Type 0} (a b : D) → Some a ≡ Some b → a ≡ b
    some_is a b e = cc

pub some_is : {D : Type 0} (a b : D) → Some a ≡ Some b → a ≡ b
some_is a b e = cc
