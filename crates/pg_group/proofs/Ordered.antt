-- Lists in order, and one more that is put into them.
use Rattle.std.proofs.Common.{◌≡◌, ℕ, suc, zero, ◌<◌, ◌≤◌, Bool, true, false, ◌||◌, List, [], ◌∷◌, ◌++◌, length, get_or, take, drop}
use Rattle.std.proofs.Common.{refl, sym, ap, ◌∙◌, arith, append_assoc}
use Rattle.std.specs.BTreeMap.{is_at}
use Rattle.std.specs.BTreeSet.{insert_key}
use Rattle.std.specs.Cmp.{IsTotalOrder}
use Rattle.std.specs.List.{AllByRecursion, AllWithin, HoldsAt, insert, list_any}
use Rattle.std.specs.List.Sorted.{IsStrictlySortedBy, IsNonDecreasingBy}
use Rattle.std.specs.Ordering.{is_eq, is_gt, match_ordering, ordering_index, ordering_reverse}
use Rattle.std.specs.declared.cmp.Ordering.{Ordering}
use Rattle.std.specs.declared.cmp.Ordering.TheVariants.{Less, Equal, Greater}
use Rattle.std.proofs.lemmas.List.{take-append-drop}
use Rattle.std.proofs.lemmas.Map.Keys.{Less-from_sorted}
use Rattle.std.proofs.lemmas.List.Folds.{list_any-append}
use Rattle.std.proofs.lemmas.Bool.Decides.{nat_tests}
use Rattle.std.proofs.lemmas.Cmp.{alike_right}
use Rattle.std.specs.Prelude.{nat_lt}

-- ---- all of a list

module _ {K : Type 0} (P : K → Type 0) where
  pub all_append : (xs ys : List K) → AllByRecursion P xs → AllByRecursion P ys → AllByRecursion P (xs ++ ys)
  all_append [] ys g h = h
  all_append (x ∷ xs) ys g h = (g.0, all_append xs ys g.1 h)

  pub all_left : (xs ys : List K) → AllByRecursion P (xs ++ ys) → AllByRecursion P xs
  all_left [] ys h = tt
  all_left (x ∷ xs) ys h = (h.0, all_left xs ys h.1)

  pub all_right : (xs ys : List K) → AllByRecursion P (xs ++ ys) → AllByRecursion P ys
  all_right [] ys h = h
  all_right (x ∷ xs) ys h = all_right xs ys h.1

  pub all_weaker : (Q : K → Type 0) → ((x : K) → P x → Q x) → (xs : List K) → AllByRecursion P xs → AllByRecursion Q xs
  all_weaker Q f [] h = tt
  all_weaker Q f (x ∷ xs) h = (f x h.0, all_weaker Q f xs h.1)

  all_before : (xs : List K) (i : ℕ) → i ≤ length xs → AllWithin P xs 0 i → AllByRecursion P (take i xs)
  all_before xs zero l h = tt
  all_before [] (suc i) l h = tt
  all_before (x ∷ xs) (suc i) l h = (h 0 x (omega arith) (omega arith), all_before xs i (omega arith) (λ k d a b. h (suc k) d (omega arith) (omega arith)))

  all_from : (xs : List K) (i : ℕ) → AllWithin P xs i (length xs) → AllByRecursion P (drop i xs)
  all_from [] zero h = tt
  all_from [] (suc i) h = tt
  all_from (x ∷ xs) zero h = (h 0 x (omega arith) (omega arith), all_from xs zero (λ k d a b. h (suc k) d (omega arith) (omega arith)))
  all_from (x ∷ xs) (suc i) h = all_from xs i (λ k d a b. h (suc k) d (omega arith) (omega arith))

or_none : (a b : Bool) → a ≡ false → b ≡ false → (a || b) ≡ false
or_none a b e f = ap (λ c. c || b) e ∙ f

module _ {K : Type 0} {R : K → K → Ordering} (o : IsTotalOrder R) where
  pub flip : (x k : K) → R x k ≡ Less → R k x ≡ Greater
  flip x k e = o.antisymm k x ∙ ap ordering_reverse e

  pub flop : (k x : K) → R k x ≡ Greater → R x k ≡ Less
  flop k x e = o.antisymm x k ∙ ap ordering_reverse e

  -- ---- where one more goes

  pub put_after : (front rest : List K) (k : K) → AllByRecursion (λ x. R x k ≡ Less) front → insert_key R (front ++ rest) k ≡ front ++ insert_key R rest k
  put_after [] rest k h = refl
  put_after (x ∷ front) rest k h =
      ap (λ p. match_ordering p (k ∷ x ∷ (front ++ rest)) (x ∷ (front ++ rest)) (x ∷ insert_key R (front ++ rest) k)) (flip x k h.0)
      ∙ ap (λ l. x ∷ l) (put_after front rest k h.1)

  pub put_before : (rest : List K) (k : K) → AllByRecursion (λ x. R k x ≡ Less) rest → insert_key R rest k ≡ k ∷ rest
  put_before [] k h = refl
  put_before (x ∷ rest) k h = ap (λ p. match_ordering p (k ∷ x ∷ rest) (x ∷ rest) (x ∷ insert_key R rest k)) h.0

  -- at the latest before the last of the first list
  pub put_within : (front rest : List K) (last k : K) → is_gt (R k last) ≡ false → insert_key R ((front ++ last ∷ []) ++ rest) k ≡ insert_key R (front ++ last ∷ []) k ++ rest
  put_within [] rest last k h = go (R k last) h
    where
      go : (p : Ordering) → is_gt p ≡ false → match_ordering p (k ∷ last ∷ rest) (last ∷ rest) (last ∷ insert_key R rest k) ≡ match_ordering p (k ∷ last ∷ []) (last ∷ []) (last ∷ k ∷ []) ++ rest
      go Less e = refl
      go Equal e = refl
      go Greater e = absurd (cc e)
  put_within (x ∷ front) rest last k h = go (R k x) (put_within front rest last k h)
    where
      go : (p : Ordering) → insert_key R ((front ++ last ∷ []) ++ rest) k ≡ insert_key R (front ++ last ∷ []) k ++ rest
          → match_ordering p (k ∷ x ∷ ((front ++ last ∷ []) ++ rest)) (x ∷ ((front ++ last ∷ []) ++ rest)) (x ∷ insert_key R ((front ++ last ∷ []) ++ rest) k)
          ≡ match_ordering p (k ∷ x ∷ (front ++ last ∷ [])) (x ∷ (front ++ last ∷ [])) (x ∷ insert_key R (front ++ last ∷ []) k) ++ rest
      go Less e = refl
      go Equal e = refl
      go Greater e = ap (λ l. x ∷ l) e

  all_put : (P : K → Type 0) (xs : List K) (k : K) → P k → AllByRecursion P xs → AllByRecursion P (insert_key R xs k)
  all_put P [] k p h = (p, tt)
  all_put P (x ∷ xs) k p h = go (R k x) (all_put P xs k p h.1)
    where
      go : (q : Ordering) → AllByRecursion P (insert_key R xs k) → AllByRecursion P (match_ordering q (k ∷ x ∷ xs) (x ∷ xs) (x ∷ insert_key R xs k))
      go Less f = (p, h)
      go Equal f = h
      go Greater f = (h.0, f)

  pub sorted_put : (xs : List K) (k : K) → IsStrictlySortedBy R xs → IsStrictlySortedBy R (insert_key R xs k)
  unfolding IsStrictlySortedBy
  sorted_put [] k h = (tt, tt)
  sorted_put (x ∷ xs) k h = go (R k x) refl (sorted_put xs k h.1)
    where
      go : (q : Ordering) → R k x ≡ q → IsStrictlySortedBy R (insert_key R xs k) → IsStrictlySortedBy R (match_ordering q (k ∷ x ∷ xs) (x ∷ xs) (x ∷ insert_key R xs k))
      go Less e f = ((e, all_weaker (λ y. R x y ≡ Less) (λ y. R k y ≡ Less) (λ y g. o.trans k x y e g) xs h.0), h)
      go Equal e f = h
      go Greater e f = (all_put (λ y. R x y ≡ Less) xs k (flop k x e) h.0, f)

  -- ---- parts of a list in order

  pub sorted_left : (xs ys : List K) → IsStrictlySortedBy R (xs ++ ys) → IsStrictlySortedBy R xs
  unfolding IsStrictlySortedBy
  sorted_left [] ys h = tt
  sorted_left (x ∷ xs) ys h = (all_left (λ y. R x y ≡ Less) xs ys h.0, sorted_left xs ys h.1)

  pub sorted_right : (xs ys : List K) → IsStrictlySortedBy R (xs ++ ys) → IsStrictlySortedBy R ys
  unfolding IsStrictlySortedBy
  sorted_right [] ys h = h
  sorted_right (x ∷ xs) ys h = sorted_right xs ys h.1

  pub before_one : (xs ys : List K) (y : K) → IsStrictlySortedBy R (xs ++ y ∷ ys) → AllByRecursion (λ x. R x y ≡ Less) xs
  unfolding IsStrictlySortedBy
  before_one [] ys y h = tt
  before_one (x ∷ xs) ys y h = ((all_right (λ z. R x z ≡ Less) xs (y ∷ ys) h.0).0, before_one xs ys y h.1)

  pub after_one : (xs ys : List K) (x : K) → IsStrictlySortedBy R (xs ++ x ∷ ys) → AllByRecursion (λ y. R x y ≡ Less) ys
  unfolding IsStrictlySortedBy
  after_one xs ys x h = (sorted_right xs (x ∷ ys) h).0

  -- all up to one that is below k are below k
  pub below_one : (xs ys : List K) (x k : K) → IsStrictlySortedBy R (xs ++ x ∷ ys) → R x k ≡ Less → AllByRecursion (λ y. R y k ≡ Less) (xs ++ x ∷ [])
  below_one xs ys x k h e = all_append (λ y. R y k ≡ Less) xs (x ∷ []) (all_weaker (λ y. R y x ≡ Less) (λ y. R y k ≡ Less) (λ y g. o.trans y x k g e) xs (before_one xs ys x h)) (e, tt)

  -- ---- whether one is there

  pub none_below : (xs : List K) (k : K) → AllByRecursion (λ x. R x k ≡ Less) xs → list_any (is_at (R k)) xs ≡ false
  none_below [] k h = refl
  none_below (x ∷ xs) k h = or_none (is_at (R k) x) (list_any (is_at (R k)) xs) (ap is_eq (flip x k h.0)) (none_below xs k h.1)

  pub none_above : (xs : List K) (k : K) → AllByRecursion (λ x. R k x ≡ Less) xs → list_any (is_at (R k)) xs ≡ false
  none_above [] k h = refl
  none_above (x ∷ xs) k h = or_none (is_at (R k) x) (list_any (is_at (R k)) xs) (ap is_eq h.0) (none_above xs k h.1)

  -- one that is no more than another is less than what comes after that
  pub none_after : (xs ys : List K) (x k : K) → IsStrictlySortedBy R (xs ++ x ∷ ys) → is_gt (R k x) ≡ false → list_any (is_at (R k)) ys ≡ false
  none_after xs ys x k h e = none_above ys k (all_weaker (λ y. R x y ≡ Less) (λ y. R k y ≡ Less) (λ y g. go (R k x) refl e y g) ys (after_one xs ys x h))
    where
      go : (p : Ordering) → R k x ≡ p → is_gt p ≡ false → (y : K) → R x y ≡ Less → R k y ≡ Less
      go Less f i y g = o.trans k x y f g
      go Equal f i y g = o.congr k x y f ∙ g
      go Greater f i y g = absurd (cc i)

  -- what is there is put in to no effect
  pub put_there : (xs : List K) (k : K) → IsStrictlySortedBy R xs → list_any (is_at (R k)) xs ≡ true → insert_key R xs k ≡ xs
  unfolding IsStrictlySortedBy
  put_there [] k h e = absurd (cc e)
  put_there (x ∷ xs) k h e = go (R k x) refl e (put_there xs k h.1)
    where
      go : (p : Ordering) → R k x ≡ p → (is_eq p || list_any (is_at (R k)) xs) ≡ true → (list_any (is_at (R k)) xs ≡ true → insert_key R xs k ≡ xs) → match_ordering p (k ∷ x ∷ xs) (x ∷ xs) (x ∷ insert_key R xs k) ≡ x ∷ xs
      go Less f i next = absurd (cc (sym i ∙ none_above xs k (all_weaker (λ y. R x y ≡ Less) (λ y. R k y ≡ Less) (λ y g. o.trans k x y f g) xs h.0)))
      go Equal f i next = refl
      go Greater f i next = ap (λ l. x ∷ l) (next i)

  -- ---- what a binary search finds

  pub rises : (xs : List K) (k : K) → IsStrictlySortedBy R xs → IsNonDecreasingBy (λ y. ordering_index (R y k)) xs
  rises xs k h i j d le within = go (nat_lt i j) refl
    where
      less_first : R (get_or xs i d) (get_or xs j d) ≡ Less → (p q : Ordering) → R (get_or xs i d) k ≡ p → R (get_or xs j d) k ≡ q → ordering_index p ≤ ordering_index q
      less_first e Less q f g = omega arith
      less_first e Equal Less f g = absurd (cc (sym f ∙ o.trans (get_or xs i d) (get_or xs j d) k e g))
      less_first e Equal Equal f g = omega arith
      less_first e Equal Greater f g = omega arith
      less_first e Greater Less f g = absurd (cc (sym f ∙ o.trans (get_or xs i d) (get_or xs j d) k e g))
      less_first e Greater Equal f g = absurd (cc (sym f ∙ sym (alike_right o (get_or xs j d) k (get_or xs i d) g) ∙ e))
      less_first e Greater Greater f g = omega arith

      go : (b : Bool) → nat_lt i j ≡ b → ordering_index (R (get_or xs i d) k) ≤ ordering_index (R (get_or xs j d) k)
      go true e = less_first (Less-from_sorted R xs i j d h (grind (arith, nat_tests)) within) (R (get_or xs i d) k) (R (get_or xs j d) k) refl refl
      go false e = let same : i ≡ j = grind (arith, nat_tests) in let f : ordering_index (R (get_or xs i d) k) ≡ ordering_index (R (get_or xs j d) k) = ap (λ n. ordering_index (R (get_or xs n d) k)) same in omega arith

  pub search_found : (xs : List K) (k : K) (i : ℕ) → i < length xs → HoldsAt (λ y. R y k ≡ Equal) xs i → list_any (is_at (R k)) xs ≡ true
  search_found [] k i l h = absurd (omega arith)
  search_found (x ∷ xs) k zero l h = ap (λ b. b || list_any (is_at (R k)) xs) (ap is_eq (o.antisymm k x ∙ ap ordering_reverse (h x)))
  search_found (x ∷ xs) k (suc i) l h = either (is_at (R k) x) (search_found xs k i (omega arith) h)
    where
      either : (a : Bool) → list_any (is_at (R k)) xs ≡ true → (a || list_any (is_at (R k)) xs) ≡ true
      either true e = refl
      either false e = e

  module _ (xs : List K) (k : K) (i : ℕ) (within : i ≤ length xs) (low : AllWithin (λ y. R y k ≡ Less) xs 0 i) (high : AllWithin (λ y. R y k ≡ Greater) xs i (length xs)) where
    above : AllByRecursion (λ y. R k y ≡ Less) (drop i xs)
    above = all_weaker (λ y. R y k ≡ Greater) (λ y. R k y ≡ Less) (λ y g. flop y k g) (drop i xs) (all_from (λ y. R y k ≡ Greater) xs i high)

    below : AllByRecursion (λ y. R y k ≡ Less) (take i xs)
    below = all_before (λ y. R y k ≡ Less) xs i within low

    pub search_missed : list_any (is_at (R k)) xs ≡ false
    search_missed = ap (list_any (is_at (R k))) (sym (take-append-drop i xs)) ∙ list_any-append (is_at (R k)) (take i xs) (drop i xs) ∙ or_none _ _ (none_below (take i xs) k below) (none_above (drop i xs) k above)

    -- before one that is above
    pub put_at : (last : K) → R k last ≡ Less → insert xs i k ++ last ∷ [] ≡ insert_key R (xs ++ last ∷ []) k
    put_at last less =
        append_assoc (take i xs) (k ∷ drop i xs) (last ∷ [])
        ∙ ap (λ l. take i xs ++ l) (sym (put_before (drop i xs ++ last ∷ []) k (all_append (λ y. R k y ≡ Less) (drop i xs) (last ∷ []) above (less, tt))))
        ∙ sym (put_after (take i xs) (drop i xs ++ last ∷ []) k below)
        ∙ ap (λ l. insert_key R l k) (sym (append_assoc (take i xs) (drop i xs) (last ∷ [])) ∙ ap (λ l. l ++ last ∷ []) (take-append-drop i xs))
