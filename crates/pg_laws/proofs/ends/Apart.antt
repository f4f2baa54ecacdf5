-- The places of a configuration whose names differ have different names.
use Rattle.std.proofs.Common.{◌≡◌, ℕ, ◌<◌, zero, suc, Bool, true, false, not, ◌&&◌, nat_eq}
use Rattle.std.proofs.Common.{nat_lt, length, List, [], ◌∷◌, refl, ap, sym, ◌∙◌, subst, arith}
use Rattle.std.specs.Prelude.{unwrap_or, slice_get}
use Rattle.std.specs.List.{AllByRecursion, IsDistinct}
use Rattle.std.specs.Cmp.{first_so, second_so}
use Rattle.std.proofs.lemmas.Bool.{eq-eqb, eqb-true}
use Rattle.std.proofs.lemmas.Bool.Decides.{Decides-ltb}
use Rattle.std.proofs.lemmas.List.{length-map}
use Rattle.std.proofs.lemmas.Map.Keys.{IsDistinct-head, IsDistinct-tail}
use Rattle.pg_term.specs.Same.{same_atom}
use Rattle.pg_step.specs.Machines.Places.{is_place, is_pair}
use Rattle.pg_step.specs.Nodes.{Node}
use Rattle.pg_step.specs.Config.{Config, names_of, name_at}
use Rattle.pg_step.proofs.Once.{same_is, is_same, clash}

abbrev pub name_of_place : List Node → ℕ → Node
name_of_place names i = unwrap_or (slice_get names i) []

pub all_at : (P : Node → Type 0) (xs : List Node) (i : ℕ) → i < length xs → AllByRecursion P xs → P (name_of_place xs i)
all_at P [] i lt h = absurd (omega arith)
all_at P (x ∷ xs) zero lt h = h.0
all_at P (x ∷ xs) (suc i) lt h = all_at P xs i (omega arith) h.1

one_place : (names : List Node) (i p : ℕ) → i < length names → p < length names → IsDistinct same_atom names → same_atom (name_of_place names i) (name_of_place names p) ≡ true → i ≡ p
one_place [] i p li lp apart same = absurd (omega arith)
one_place (x ∷ xs) zero zero li lp apart same = refl
one_place (x ∷ xs) zero (suc p) li lp apart same =
    absurd (clash (sym same ∙ all_at (λ y. same_atom x y ≡ false) xs p (omega arith) (IsDistinct-head same_atom x xs apart)))
one_place (x ∷ xs) (suc i) zero li lp apart same =
    let turned : same_atom x (name_of_place xs i) ≡ true = ap (same_atom x) (same_is (name_of_place xs i) x same) ∙ is_same x in
    absurd (clash (sym turned ∙ all_at (λ y. same_atom x y ≡ false) xs i (omega arith) (IsDistinct-head same_atom x xs apart)))
one_place (x ∷ xs) (suc i) (suc p) li lp apart same = ap suc (one_place xs i p (omega arith) (omega arith) (IsDistinct-tail same_atom x xs apart) same)

module _ (config : Config) where
  pub place_below : (j : ℕ) → is_place (length config) j ≡ true → j < length (names_of config)
  place_below j there = subst (λ n. j < n) (sym (length-map config (λ start. start.name))) ((Decides-ltb j (length config)).0 there)

  pub same_place : IsDistinct same_atom (names_of config) → (i p : ℕ) → is_place (length config) i ≡ true → is_place (length config) p ≡ true
      → same_atom (name_at config i) (name_at config p) ≡ true → i ≡ p
  same_place apart i p there here same = one_place (names_of config) i p (place_below i there) (place_below p here) apart same

-- ---- pairs

pub pair_first : (size i p : ℕ) → is_pair size i p ≡ true → is_place size i ≡ true
pair_first size i p pair = first_so (is_place size i) _ pair

pub pair_second : (size i p : ℕ) → is_pair size i p ≡ true → is_place size p ≡ true
pair_second size i p pair = first_so (is_place size p) _ (second_so (is_place size i) _ pair)

pub pair_swapped : (size i p : ℕ) → is_pair size i p ≡ true → is_pair size p i ≡ true
pair_swapped size i p pair = go (nat_lt i size) (nat_lt p size) (nat_eq i p) (nat_eq p i) (λ e. eq-eqb i p (sym (eqb-true p i e))) pair
  where
    go : (a b c d : Bool) → (d ≡ true → c ≡ true) → (a && (b && not c)) ≡ true → (b && (a && not d)) ≡ true
    go true true c false back e = refl
    go true true true true back e = absurd (cc)
    go true true false true back e = absurd (clash (sym (back refl)))
    go true false c d back e = absurd (cc)
    go false b c d back e = absurd (cc)
