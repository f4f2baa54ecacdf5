-- Functions that are changed at one key.
use Rattle.std.specs.Prelude.{Bool, cond}

-- f with v at the key k, where `same` tells whether two keys are one
unfoldable pub upd : {K A : Type 0} → (K → K → Bool) → (K → A) → K → A → K → A
upd same f k v x = cond (same k x) v (f x)
