-- The place of a node, by its name, where no two places have one name.
use Rattle.std.proofs.Common.{◌≡◌, ◌≢◌, ℕ, ◌<◌, zero, suc, Bool, true, false, not, ◌&&◌, ◌||◌, cond, nat_eq}
use Rattle.std.proofs.Common.{length, List, [], ◌∷◌, refl, ap, sym, ◌∙◌, subst, arith, inl, inr, ◌⊎◌}
use Rattle.std.specs.List.{AllByRecursion, IsDistinct, list_any, remove}
use Rattle.std.proofs.lemmas.Bool.{cases_eq, eq-eqb, ne_eqb}
use Rattle.std.proofs.lemmas.Map.Keys.{IsDistinct-head, IsDistinct-tail}
use Rattle.pg_term.specs.Same.{same_atom}
use Rattle.pg_step.specs.Machines.Places.{is_place}
use Rattle.pg_step.specs.Nodes.{Node}
use Rattle.pg_step.specs.Config.{Config, names_of, name_at}
use Rattle.pg_laws.proofs.references.Keys.{atoms, differ}
use Rattle.pg_laws.proofs.ends.Apart.{name_of_place, all_at, same_place}

-- the place of a name; past all places where none has it
pub place_of : List Node → Node → ℕ
place_of [] a = 0
place_of (x ∷ xs) a = cond (same_atom a x) 0 (suc (place_of xs a))

-- ---- a name that is there

-- the place of a name has that name
pub has_place : (names : List Node) (a : Node) → list_any (same_atom a) names ≡ true → (place_of names a < length names) × (name_of_place names (place_of names a) ≡ a)
unfolding place_of
has_place [] a there = absurd (cc)
has_place (x ∷ xs) a there = go (same_atom a x) refl there (has_place xs a)
  where
    go : (b : Bool) → same_atom a x ≡ b → (b || list_any (same_atom a) xs) ≡ true
        → (list_any (same_atom a) xs ≡ true → (place_of xs a < length xs) × (name_of_place xs (place_of xs a) ≡ a))
        → (cond b 0 (suc (place_of xs a)) < length (x ∷ xs)) × (name_of_place (x ∷ xs) (cond b 0 (suc (place_of xs a))) ≡ a)
    go true is some later = (omega arith, sym (atoms.is a x is))
    go false is some later = let rest = later some in let below : place_of xs a < length xs = rest.0 in (omega (arith, below), rest.1)

pub is_named : (names : List Node) (i : ℕ) → i < length names → list_any (same_atom (name_of_place names i)) names ≡ true
is_named [] i below = absurd (omega arith)
is_named (x ∷ xs) zero below = ap (λ b. b || list_any (same_atom x) xs) (atoms.refl x)
is_named (x ∷ xs) (suc i) below = right (same_atom (name_of_place xs i) x) (is_named xs i (omega arith))
  where
    right : (b : Bool) {c : Bool} → c ≡ true → (b || c) ≡ true
    right true e = refl
    right false e = e

-- ---- the name of a place

other_name : (x : Node) (xs : List Node) (i : ℕ) → i < length xs → IsDistinct same_atom (x ∷ xs) → same_atom x (name_of_place xs i) ≡ false
other_name x xs i below apart = all_at (λ y. same_atom x y ≡ false) xs i below (IsDistinct-head same_atom x xs apart)

turned : (x y : Node) → same_atom x y ≡ false → same_atom y x ≡ false
turned x y other = differ same_atom atoms y x (λ e. let t : true ≡ false = sym (ap (same_atom x) e ∙ atoms.refl x) ∙ other in absurd (cc))

pub place_is : (names : List Node) (i : ℕ) → i < length names → IsDistinct same_atom names → place_of names (name_of_place names i) ≡ i
unfolding place_of
place_is [] i below apart = absurd (omega arith)
place_is (x ∷ xs) zero below apart = ap (λ b. cond b 0 (suc (place_of xs x))) (atoms.refl x)
place_is (x ∷ xs) (suc i) below apart =
    let n = name_of_place xs i in
    ap (λ b. cond b 0 (suc (place_of xs n))) (turned x n (other_name x xs i (omega arith) apart))
    ∙ ap suc (place_is xs i (omega arith) (IsDistinct-tail same_atom x xs apart))

-- ---- all but one

none_named : (x : Node) (xs : List Node) → AllByRecursion (λ y. same_atom x y ≡ false) xs → list_any (same_atom x) xs ≡ false
none_named x [] all = refl
none_named x (y ∷ ys) all = ap (λ b. b || list_any (same_atom x) ys) all.0 ∙ none_named x ys all.1

pub and_true : (b : Bool) → b ≡ (b && true)
and_true true = refl
and_true false = refl

-- those that are left where one place is left out
pub left_out : (names : List Node) (i : ℕ) (q : Node) → i < length names → IsDistinct same_atom names
    → list_any (same_atom q) (remove names i) ≡ (list_any (same_atom q) names && not (same_atom (name_of_place names i) q))
left_out [] i q below apart = absurd (omega arith)
left_out (x ∷ xs) zero q below apart = go (same_atom x q) refl
  where
    go : (b : Bool) → same_atom x q ≡ b → list_any (same_atom q) xs ≡ ((same_atom q x || list_any (same_atom q) xs) && not b)
    go true is =
        let none : list_any (same_atom q) xs ≡ false = subst (λ z. list_any (same_atom z) xs ≡ false) (atoms.is x q is) (none_named x xs (IsDistinct-head same_atom x xs apart)) in
        none ∙ never (same_atom q x || list_any (same_atom q) xs)
      where
        never : (b : Bool) → false ≡ (b && false)
        never true = refl
        never false = refl
    go false is = and_true (list_any (same_atom q) xs) ∙ ap (λ b. (b || list_any (same_atom q) xs) && true) (sym (turned x q is))
left_out (x ∷ xs) (suc i) q below apart = go (left_out xs i q (omega arith) (IsDistinct-tail same_atom x xs apart)) (same_atom q x) refl
  where
    n : Node
    n = name_of_place xs i

    go : list_any (same_atom q) (remove xs i) ≡ (list_any (same_atom q) xs && not (same_atom n q)) → (b : Bool) → same_atom q x ≡ b → (b || list_any (same_atom q) (remove xs i)) ≡ ((b || list_any (same_atom q) xs) && not (same_atom n q))
    go later true is =
        let other : same_atom n q ≡ false = ap (same_atom n) (atoms.is q x is) ∙ turned x n (other_name x xs i (omega arith) apart) in
        ap not (sym other)
    go later false is = later

-- ---- places of a configuration

module _ (config : Config) (apart : IsDistinct same_atom (names_of config)) where
  -- two places have one name where they are one place
  pub same_names : (i j : ℕ) → is_place (length config) i ≡ true → is_place (length config) j ≡ true → same_atom (name_at config i) (name_at config j) ≡ nat_eq i j
  same_names i j there here = go (cases_eq i j)
    where
      go : (i ≡ j) ⊎ (i ≢ j) → same_atom (name_at config i) (name_at config j) ≡ nat_eq i j
      go (inl e) = ap (λ k. same_atom (name_at config i) (name_at config k)) (sym e) ∙ atoms.refl (name_at config i) ∙ sym (eq-eqb i j e)
      go (inr n) = differ same_atom atoms (name_at config i) (name_at config j)
          (λ e. n (same_place config apart i j there here (ap (same_atom (name_at config i)) (sym e) ∙ atoms.refl (name_at config i)))) ∙ sym (ne_eqb i j n)
