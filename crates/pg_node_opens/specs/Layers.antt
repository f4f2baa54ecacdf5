-- A list that says a function: each item answers for some keys, and the first one that answers counts.
use Rattle.std.specs.Prelude.{◌≡◌, ℕ, Bool, true, false, zero, suc, List, [], ◌∷◌, Option, Some, None, slice_get}

abbrev pub over : {B : Type 0} → Option B → Option B → Option B
over None y = y
over (Some x) y = Some x

abbrev pub or_as : {B : Type 0} → Option B → B → B
or_as None d = d
or_as (Some x) d = x

abbrev pub seek : {A K B : Type 0} → (A → K → Option B) → List A → K → Option B
seek at [] x = None
seek at (a ∷ xs) x = over (at a x) (seek at xs x)

abbrev pub answers : {B : Type 0} → Option B → Bool
answers None = false
answers (Some x) = true

-- all but the item at a place
abbrev pub others : {A : Type 0} → List A → ℕ → List A
others [] k = []
others (a ∷ xs) zero = xs
others (a ∷ xs) (suc k) = a ∷ others xs k

-- no two items answer for one key
abbrev pub AllAlone : {A K B : Type 0} → (A → K → Option B) → List A → Type 0
AllAlone {A} {K} at xs = (k : ℕ) (a : A) (x : K) → slice_get xs k ≡ Some a → answers (at a x) ≡ true → answers (seek at (others xs k) x) ≡ false
