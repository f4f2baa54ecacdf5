-- A table has one list of its names in order.
use Rattle.std.proofs.Common.{◌≡◌, ℕ, suc, ◌+◌, ◌<◌, Bool, true, false, ◌||◌, List, []}
use Rattle.std.proofs.Common.{◌∷◌, length, get_or, refl, sym, ap, ◌∙◌, subst, arith}
use Rattle.std.specs.List.{AllByRecursion, IsDistinct, list_any}
use Rattle.std.specs.List.Sorted.{IsSorted}
use Rattle.std.specs.Ordering.{is_lt, is_eq, ordering_reverse}
use Rattle.std.specs.declared.cmp.Ordering.{Ordering}
use Rattle.std.specs.declared.cmp.Ordering.TheVariants.{Less, Equal, Greater}
use Rattle.std.proofs.lemmas.List.Sorted.{sorted_far, ranks_by}
use Rattle.std.proofs.lemmas.Map.Keys.{IsDistinct-head, IsDistinct-tail}
use Rattle.pg_term.specs.declared.term.Term.{Term}
use Rattle.pg_term.specs.Same.{same_term, term_cmp}
use Rattle.pg_term.specs.contracts.term.TermEq.TheImpl.Laws as equality_laws
use Rattle.pg_term.specs.contracts.term.TermOrd.TheImpl.Laws as order_laws
use Rattle.pg_term.proofs.Same.{same_term as term_is}
use Rattle.pg_node_state.specs.PgGroup.Table.{Table, AreNames}

-- where a name stands in a list
record StandsAt (names : List Term) (name : Term) : Type 0 where
  place : ℕ
  within : place < length names
  is : (d : Term) → get_or names place d ≡ name

later_at : (x : Term) (names : List Term) (name : Term) → StandsAt names name → StandsAt (x ∷ names) name
later_at x names name at = record { place = suc at.place; within = omega (arith, at.within); is = at.is }

stands_at : (names : List Term) (name : Term) → list_any (same_term name) names ≡ true → StandsAt names name
stands_at [] name e = absurd cc
stands_at (x ∷ names) name e = go (same_term name x) refl e (λ t. later_at x names name (stands_at names name t))
  where
    go : (b : Bool) → same_term name x ≡ b → (b || list_any (same_term name) names) ≡ true → (list_any (same_term name) names ≡ true → StandsAt (x ∷ names) name) → StandsAt (x ∷ names) name
    go true t e later = record { place = 0; within = omega arith; is = λ d. sym (term_is name x t) }
    go false t e later = later e

-- no name of a list in order is below its first
not_below : (y : Term) (ys : List Term) (name : Term) → IsSorted term_cmp (y ∷ ys) → list_any (same_term name) (y ∷ ys) ≡ true → is_lt (term_cmp name y) ≡ false
not_below y ys name ordered e =
    let at = stands_at (y ∷ ys) name e in
    ap (λ (x : Term). is_lt (term_cmp x y)) (sym (at.is y))
    ∙ sorted_far (λ a b. is_lt (term_cmp a b)) (ranks_by order_laws.total-law (λ x. x)) (y ∷ ys) ordered 0 at.place y (omega arith) at.within

first_in : (x : Term) (xs : List Term) → list_any (same_term x) (x ∷ xs) ≡ true
first_in x xs = ap (λ b. b || list_any (same_term x) xs) (equality_laws.laws-law.refl x)

turned : (x y : Term) → term_cmp x y ≡ Greater → term_cmp y x ≡ Less
turned x y e = order_laws.total-law.antisymm y x ∙ ap ordering_reverse e

-- lists in order of the same names begin alike
one_first : (x : Term) (xs : List Term) (y : Term) (ys : List Term) → IsSorted term_cmp (x ∷ xs) → IsSorted term_cmp (y ∷ ys)
    → ((name : Term) → list_any (same_term name) (x ∷ xs) ≡ list_any (same_term name) (y ∷ ys)) → x ≡ y
one_first x xs y ys up rises same = go (term_cmp x y) refl
  where
    go : (o : Ordering) → term_cmp x y ≡ o → x ≡ y
    go Less e = absurd (let clash = ap is_lt (sym e) ∙ not_below y ys x rises (sym (same x) ∙ first_in x xs) in cc)
    go Equal e = term_is x y (order_laws.matches_eq-law x y ∙ ap is_eq e)
    go Greater e = absurd (let clash = ap is_lt (sym (turned x y e)) ∙ not_below x xs y up (same y ∙ first_in y ys) in cc)

sorted_tail : (x : Term) (xs : List Term) → IsSorted term_cmp (x ∷ xs) → IsSorted term_cmp xs
sorted_tail x xs up k d low high =
    subst (λ n. is_lt (term_cmp (get_or (x ∷ xs) n d) (get_or xs k d)) ≡ false) {x = suc k + 1} {y = suc (k + 1)} (omega arith) (up (suc k) d (omega arith) (omega (arith, high)))

none_in : (test : Term → Bool) (names : List Term) → AllByRecursion (λ name. test name ≡ false) names → list_any test names ≡ false
none_in test [] h = refl
none_in test (name ∷ names) h = ap (λ b. b || list_any test names) h.0 ∙ none_in test names h.1

tails_same : (x : Term) (xs ys : List Term) → IsDistinct same_term (x ∷ xs) → IsDistinct same_term (x ∷ ys)
    → ((name : Term) → list_any (same_term name) (x ∷ xs) ≡ list_any (same_term name) (x ∷ ys)) → (name : Term) → list_any (same_term name) xs ≡ list_any (same_term name) ys
tails_same x xs ys once others_once same name = go (same_term name x) refl (same name)
  where
    none : (zs : List Term) → IsDistinct same_term (x ∷ zs) → name ≡ x → list_any (same_term name) zs ≡ false
    none zs apart is = ap (λ (n : Term). list_any (same_term n) zs) is ∙ none_in (same_term x) zs (IsDistinct-head same_term x zs apart)

    go : (b : Bool) → same_term name x ≡ b → (b || list_any (same_term name) xs) ≡ (b || list_any (same_term name) ys) → list_any (same_term name) xs ≡ list_any (same_term name) ys
    go true t e = none xs once (term_is name x t) ∙ sym (none ys others_once (term_is name x t))
    go false t e = e

empty_is : (xs : List Term) → ((name : Term) → list_any (same_term name) xs ≡ false) → xs ≡ []
empty_is [] none = refl
empty_is (x ∷ xs) none = absurd (let clash = sym (first_in x xs) ∙ none x in cc)

-- lists in order of the same names, each once, are one
pub sorted_one : (xs ys : List Term) → IsSorted term_cmp xs → IsSorted term_cmp ys → IsDistinct same_term xs → IsDistinct same_term ys
    → ((name : Term) → list_any (same_term name) xs ≡ list_any (same_term name) ys) → xs ≡ ys
sorted_one [] ys up rises once others_once same = sym (empty_is ys (λ name. sym (same name)))
sorted_one (x ∷ xs) [] up rises once others_once same = empty_is (x ∷ xs) same
sorted_one (x ∷ xs) (y ∷ ys) up rises once others_once same =
    let first : x ≡ y = one_first x xs y ys up rises same in
    let alike : (name : Term) → list_any (same_term name) (x ∷ xs) ≡ list_any (same_term name) (x ∷ ys) = λ name. same name ∙ ap (λ (z : Term). list_any (same_term name) (z ∷ ys)) (sym first) in
    let apart : IsDistinct same_term (x ∷ ys) = subst (λ (z : Term). IsDistinct same_term (z ∷ ys)) (sym first) others_once in
    let rest : xs ≡ ys = sorted_one xs ys (sorted_tail x xs up) (sorted_tail y ys rises) (IsDistinct-tail same_term x xs once) (IsDistinct-tail same_term y ys others_once) (tails_same x xs ys once apart alike) in
    λ i. first i ∷ rest i

pub names_one : (table : Table) (names others : List Term) → AreNames table names → IsSorted term_cmp names → AreNames table others → IsSorted term_cmp others → names ≡ others
names_one table names others are up be rises = sorted_one names others up rises are.once be.once (λ name. are.each name ∙ sym (be.each name))
