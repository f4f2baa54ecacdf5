-- What the test of names decides.
use Rattle.std.proofs.Common.{◌≡◌, ℕ, Bool, true, false, not, ◌&&◌, ◌||◌, List, [], ◌∷◌, refl}
use Rattle.std.specs.List.{list_any, AllByRecursion, IsDistinct}
use Rattle.pg_term.specs.Same.{same_atom}
use Rattle.pg_node_process.specs.Configs.{are_apart}

left : (b c : Bool) → (b && c) ≡ true → b ≡ true
left true c e = refl
left false c e = absurd cc

right : (b c : Bool) → (b && c) ≡ true → c ≡ true
right true c e = e
right false c e = absurd cc

is_not : (b : Bool) → not b ≡ true → b ≡ false
is_not true e = absurd cc
is_not false e = refl

not_left : (b c : Bool) → (b || c) ≡ false → b ≡ false
not_left true c e = e
not_left false c e = refl

not_right : (b c : Bool) → (b || c) ≡ false → c ≡ false
not_right true c e = absurd cc
not_right false c e = e

others_differ : (name : List ℕ) (names : List (List ℕ)) → list_any (same_atom name) names ≡ false → AllByRecursion (λ other. same_atom name other ≡ false) names
others_differ name [] e = tt
others_differ name (other ∷ names) e = (not_left (same_atom name other) (list_any (same_atom name) names) e, others_differ name names (not_right (same_atom name other) (list_any (same_atom name) names) e))

pub apart_names : (names : List (List ℕ)) → are_apart names ≡ true → IsDistinct same_atom names
unfolding IsDistinct
apart_names [] e = tt
apart_names (name ∷ names) e =
    (others_differ name names (is_not _ (left (not (list_any (same_atom name) names)) (are_apart names) e)), apart_names names (right (not (list_any (same_atom name) names)) (are_apart names) e))
