-- What stands in a merge, and in which order.
use Rattle.std.proofs.Common.{◌≡◌, ℕ, ◌+◌, ◌-◌, ◌<◌, ◌≤◌, cond, nat_eq, drop, length, get_or, slice_index}
use Rattle.std.proofs.Common.{List, [], ◌∷◌, refl, ap, sym, ◌∙◌, subst, inl, inr, ◌⊎◌, arith, zero, suc}
use Rattle.std.specs.List.{AllByRecursion, range_with_len}
use Rattle.std.proofs.lemmas.Bool.{cases_eq, eq-eqb, ne_eqb}
use Rattle.std.proofs.lemmas.List.{length-drop, drop_more}
use Rattle.pg_world.specs.PgStep.Machines.Places.{set_at}
use Rattle.pg_world.proofs.PgStep.Machines.Places.{set_at_here, set_at_other}
use Rattle.pg_cluster_judges.specs.Merge.{ComesFirst, IsNext, rest_of, MergesRest, places_of, IsRising, clock_at, IsSorted}
use Rattle.pg_cluster_judges.proofs.Acts.{all_weaker, drop_next}

within : (n : ℕ) (xs : List ℕ) (y : ℕ) (ys : List ℕ) → drop n xs ≡ y ∷ ys → n < length xs
within n xs y ys e = let long : length (drop n xs) ≡ length (y ∷ ys) = ap length e in omega (arith, long, length-drop n xs)

entry_is : (n : ℕ) (xs : List ℕ) (y : ℕ) (ys : List ℕ) → drop n xs ≡ y ∷ ys → slice_index xs n ≡ y
entry_is n xs y ys e = let both : get_or xs n 0 ∷ drop (n + 1) xs ≡ y ∷ ys = sym (drop_more xs n 0 (within n xs y ys e)) ∙ e in cc

all_done : (n : ℕ) (xs : List ℕ) → drop n xs ≡ [] → length xs - n ≡ 0
all_done n xs e = sym (length-drop n xs) ∙ ap length e

range_first : (n k : ℕ) → n < k → range_with_len n (k - n) ≡ n ∷ range_with_len (n + 1) (k - (n + 1))
range_first n k low = let same : k - n ≡ suc (k - (n + 1)) = omega arith in ap (range_with_len n) same

rising_rest : (n : ℕ) (xs : List ℕ) → IsRising xs → IsRising (drop n xs)
rising_rest zero xs h = h
rising_rest (suc n) [] h = tt
rising_rest (suc n) (x ∷ xs) h = rising_rest n xs h.1

module _ (size : ℕ) (clocks : ℕ → List ℕ) where
  pub logs_there : (order : List (ℕ × ℕ)) (read : ℕ → ℕ) → MergesRest size clocks read order → AllByRecursion (λ (x : ℕ × ℕ). x.0 < size) order
  logs_there [] read merges = tt
  logs_there (x ∷ order) read merges = let next : IsNext size (rest_of clocks read) x.0 = merges.1 in
      (next.there, logs_there order (set_at read x.0 (x.1 + 1)) merges.2)

  each_place : (i : ℕ) → i < size → (order : List (ℕ × ℕ)) (read : ℕ → ℕ) → MergesRest size clocks read order
      → places_of i order ≡ range_with_len (read i) (length (clocks i) - read i)
  each_place i low [] read none = sym (ap (range_with_len (read i)) (all_done (read i) (clocks i) (none i low)))
  each_place i low (x ∷ order) read merges =
      let next : IsNext size (rest_of clocks read) x.0 = merges.1 in
      go next (cases_eq x.0 i) (each_place i low order (set_at read x.0 (x.1 + 1)) merges.2)
    where
      go : IsNext size (rest_of clocks read) x.0 → (x.0 ≡ i) ⊎ (x.0 ≡ i → ⊥)
          → places_of i order ≡ range_with_len (set_at read x.0 (x.1 + 1) i) (length (clocks i) - set_at read x.0 (x.1 + 1) i)
          → cond (nat_eq x.0 i) (x.1 ∷ places_of i order) (places_of i order) ≡ range_with_len (read i) (length (clocks i) - read i)
      go next (inl same) rest =
          let place : x.1 ≡ read i = merges.0 ∙ ap read same in
          let next_place : set_at read x.0 (x.1 + 1) i ≡ read i + 1 = set_at_here read x.0 (x.1 + 1) i (sym same) ∙ ap (λ n. n + 1) place in
          let first : rest_of clocks read i ≡ next.clock ∷ next.later = ap (rest_of clocks read) (sym same) ∙ next.next in
          ap (λ b. cond b (x.1 ∷ places_of i order) (places_of i order)) (eq-eqb x.0 i same)
          ∙ (ap (λ n. n ∷ places_of i order) place
          ∙ (ap (λ xs. read i ∷ xs) (rest ∙ ap (λ n. range_with_len n (length (clocks i) - n)) next_place)
          ∙ sym (range_first (read i) (length (clocks i)) (within (read i) (clocks i) next.clock next.later first))))
      go next (inr apart) rest =
          ap (λ b. cond b (x.1 ∷ places_of i order) (places_of i order)) (ne_eqb x.0 i apart)
          ∙ (rest ∙ ap (λ n. range_with_len n (length (clocks i) - n)) (set_at_other read x.0 (x.1 + 1) i (λ e. apart (sym e))))

  pub every_place : (i : ℕ) → i < size → (order : List (ℕ × ℕ)) → MergesRest size clocks (λ j. 0) order → places_of i order ≡ range_with_len 0 (length (clocks i))
  every_place i low order merges = let same : length (clocks i) - 0 ≡ length (clocks i) = omega arith in each_place i low order (λ j. 0) merges ∙ ap (range_with_len 0) same

  -- what holds of all that is still to be read holds of the rest of the merge
  all_of_rest : (Q : ℕ → ℕ → Type 0) (order : List (ℕ × ℕ)) (read : ℕ → ℕ) → MergesRest size clocks read order
      → ((j : ℕ) → j < size → AllByRecursion (λ c. Q c j) (rest_of clocks read j)) → AllByRecursion (λ (y : ℕ × ℕ). Q (clock_at clocks y) y.0) order
  all_of_rest Q [] read merges h = tt
  all_of_rest Q (x ∷ order) read merges h =
      let next : IsNext size (rest_of clocks read) x.0 = merges.1 in
      let both : AllByRecursion (λ c. Q c x.0) (next.clock ∷ next.later) = subst (AllByRecursion (λ c. Q c x.0)) next.next (h x.0 next.there) in
      let is : clock_at clocks x ≡ next.clock = ap (slice_index (clocks x.0)) merges.0 ∙ entry_is (read x.0) (clocks x.0) next.clock next.later next.next in
      (subst (λ c. Q c x.0) (sym is) both.0, all_of_rest Q order (set_at read x.0 (x.1 + 1)) merges.2 (λ j low. later next both.1 j low (cases_eq j x.0)))
    where
      later : (next : IsNext size (rest_of clocks read) x.0) → AllByRecursion (λ c. Q c x.0) next.later → (j : ℕ) → j < size → (j ≡ x.0) ⊎ (j ≡ x.0 → ⊥)
          → AllByRecursion (λ c. Q c j) (rest_of clocks (set_at read x.0 (x.1 + 1)) j)
      later next all j low (inl same) =
          let is : rest_of clocks (set_at read x.0 (x.1 + 1)) x.0 ≡ next.later = ap (λ n. drop n (clocks x.0)) (set_at_here read x.0 (x.1 + 1) x.0 refl ∙ ap (λ n. n + 1) merges.0)
          ∙ drop_next (read x.0) (clocks x.0) next.clock next.later next.next in
          subst (λ k. AllByRecursion (λ c. Q c k) (rest_of clocks (set_at read x.0 (x.1 + 1)) k)) (sym same) (subst (AllByRecursion (λ c. Q c x.0)) (sym is) all)
      later next all j low (inr apart) =
          subst (λ n. AllByRecursion (λ c. Q c j) (drop n (clocks j))) (sym (set_at_other read x.0 (x.1 + 1) j apart)) (h j low)

  module _ (rising : (i : ℕ) → i < size → IsRising (clocks i)) where
    all_later : (read : ℕ → ℕ) (i : ℕ) (next : IsNext size (rest_of clocks read) i) (j : ℕ) → j < size → (r : List ℕ) → rest_of clocks read j ≡ r → IsRising r
        → AllByRecursion (λ c. ComesFirst next.clock i c j) r
    all_later read i next j low [] is up = tt
    all_later read i next j low (c ∷ cs) is up =
        let o : ComesFirst next.clock i c j = next.first j c cs low is in (
          o,
          all_weaker (λ d. c ≤ d) (λ d. ComesFirst next.clock i d j) cs
              (λ d less. record { clocks = omega (arith, o.clocks, less); places = λ same. o.places (omega (arith, o.clocks, less, same)) }) up.0,
        )

    pub sorted : (order : List (ℕ × ℕ)) (read : ℕ → ℕ) → MergesRest size clocks read order → IsSorted clocks order
    sorted [] read merges = tt
    sorted (x ∷ order) read merges =
        let next : IsNext size (rest_of clocks read) x.0 = merges.1 in
        let is : clock_at clocks x ≡ next.clock = ap (slice_index (clocks x.0)) merges.0 ∙ entry_is (read x.0) (clocks x.0) next.clock next.later next.next in
        let all : AllByRecursion (λ (y : ℕ × ℕ). ComesFirst next.clock x.0 (clock_at clocks y) y.0) (x ∷ order) =
        all_of_rest (λ c j. ComesFirst next.clock x.0 c j) (x ∷ order) read merges
        (λ j low. all_later read x.0 next j low (rest_of clocks read j) refl (rising_rest (read j) (clocks j) (rising j low))) in
        (subst (λ c. AllByRecursion (λ (y : ℕ × ℕ). ComesFirst c x.0 (clock_at clocks y) y.0) order) (sym is) all.1, sorted order (set_at read x.0 (x.1 + 1)) merges.2)
