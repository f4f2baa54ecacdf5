-- What a list says of nodes that another list names, where the names differ.
use Rattle.std.proofs.Common.{◌≡◌, ℕ, ◌<◌, zero, suc, Bool, true, false, not, ◌&&◌, ◌||◌, cond}
use Rattle.std.proofs.Common.{get_or, length, List, [], ◌∷◌, refl, ap, sym, ◌∙◌, inl, inr, ◌⊎◌, arith}
use Rattle.std.specs.Prelude.{slice_set}
use Rattle.std.specs.List.{AllByRecursion, IsDistinct, list_any, list_all, filter}
use Rattle.std.specs.Cmp.Lexicographic.{bytes_decides}
use Rattle.std.proofs.Math.Path.{fun_ext}
use Rattle.pg_term.specs.Same.{same_atom}
use Rattle.pg_step.specs.Nodes.{Node}
use Rattle.pg_node_opens.specs.Marks.{all_below}
use Rattle.pg_node_opens.specs.Places.{name_at, reads}

pub clash : true ≡ false → ⊥
clash e = cc

pub atom_is : (n q : Node) → same_atom n q ≡ true → n ≡ q
atom_is n q e = (bytes_decides n q).0 e

pub atom_same : (n q : Node) → n ≡ q → same_atom n q ≡ true
atom_same n q e = (bytes_decides n q).1 e

pub atom_self : (n : Node) → same_atom n n ≡ true
atom_self n = atom_same n n refl

pub split : (b : Bool) → (b ≡ true) ⊎ (b ≡ false)
split true = inl refl
split false = inr refl

pub atom_other : (n q : Node) → same_atom n q ≡ false → same_atom q n ≡ false
atom_other n q e = go (split (same_atom q n))
  where
    go : (same_atom q n ≡ true) ⊎ (same_atom q n ≡ false) → same_atom q n ≡ false
    go (inl f) = absurd (clash (sym (atom_same n q (sym (atom_is q n f))) ∙ e))
    go (inr f) = f

suc_less : (k n : ℕ) → suc k < suc n → k < n
suc_less k n h = omega arith

none_less : (k : ℕ) → k < 0 → ⊥
none_less k h = omega arith

suc_same : (k n : ℕ) → suc k ≡ suc n → k ≡ n
suc_same k n e = omega arith

zero_suc : (k : ℕ) → zero ≡ suc k → ⊥
zero_suc k e = omega arith

suc_zero : (k : ℕ) → suc k ≡ zero → ⊥
suc_zero k e = omega arith

-- a name is not among these, so none of them is it
other_at : (n : Node) (ns : List Node) (k : ℕ) → AllByRecursion (λ y. same_atom n y ≡ false) ns → k < length ns → same_atom n (name_at ns k) ≡ false
other_at n [] k h l = absurd (none_less k l)
other_at n (m ∷ ns) zero h l = h.0
other_at n (m ∷ ns) (suc k) h l = other_at n ns k h.1 (suc_less k (length ns) l)

-- names at two places differ
pub names_differ : (names : List Node) (j k : ℕ) → IsDistinct same_atom names → j < length names → k < length names → (j ≡ k → ⊥) → same_atom (name_at names j) (name_at names k) ≡ false
unfolding IsDistinct
names_differ [] j k h lj lk n = absurd (none_less j lj)
names_differ (a ∷ ns) zero zero h lj lk n = absurd (n refl)
names_differ (a ∷ ns) zero (suc k) h lj lk n = other_at a ns k h.0 (suc_less k (length ns) lk)
names_differ (a ∷ ns) (suc j) zero h lj lk n = atom_other a (name_at ns j) (other_at a ns j h.0 (suc_less j (length ns) lj))
names_differ (a ∷ ns) (suc j) (suc k) h lj lk n = names_differ ns j k h.1 (suc_less j (length ns) lj) (suc_less k (length ns) lk) (λ e. n (ap suc e))

module _ {A B : Type 0} (view : A → B) (default : B) where
  -- what is said of the name at a place
  pub reads_at : (names : List Node) (xs : List A) (k : ℕ) (d : A) → IsDistinct same_atom names → length xs ≡ length names → k < length names → reads view default names xs (name_at names k) ≡ view (get_or xs k d)
  unfolding IsDistinct
  reads_at [] xs k d h same l = absurd (none_less k l)
  reads_at (n ∷ ns) [] k d h same l = absurd (zero_suc (length ns) same)
  reads_at (n ∷ ns) (x ∷ xs) zero d h same l = ap (λ b. cond b (view x) (reads view default ns xs n)) (atom_self n)
  reads_at (n ∷ ns) (x ∷ xs) (suc k) d h same l =
      ap (λ b. cond b (view x) (reads view default ns xs (name_at ns k))) (other_at n ns k h.0 (suc_less k (length ns) l))
      ∙ reads_at ns xs k d h.1 (suc_same (length xs) (length ns) same) (suc_less k (length ns) l)

  -- of nobody else is anything said
  pub reads_nobody : (names : List Node) (xs : List A) (q : Node) → list_any (same_atom q) names ≡ false → reads view default names xs q ≡ default
  reads_nobody [] xs q e = refl
  reads_nobody (n ∷ ns) [] q e = refl
  reads_nobody (n ∷ ns) (x ∷ xs) q e = ap (λ b. cond b (view x) (reads view default ns xs q)) (atom_other q n (first (same_atom q n) (list_any (same_atom q) ns) e))
      ∙ reads_nobody ns xs q (second (same_atom q n) (list_any (same_atom q) ns) e)
    where
      first : (b c : Bool) → (b || c) ≡ false → b ≡ false
      first true c e = e
      first false c e = refl

      second : (b c : Bool) → (b || c) ≡ false → c ≡ false
      second true c e = absurd (clash e)
      second false c e = e

  -- a place is changed
  pub reads_set : (names : List Node) (xs : List A) (k : ℕ) (v : A) (q : Node) → IsDistinct same_atom names → length xs ≡ length names → k < length names
      → reads view default names (slice_set xs k v) q ≡ cond (same_atom (name_at names k) q) (view v) (reads view default names xs q)
  unfolding IsDistinct
  reads_set [] xs k v q h same l = absurd (none_less k l)
  reads_set (n ∷ ns) [] k v q h same l = absurd (zero_suc (length ns) same)
  reads_set (n ∷ ns) (x ∷ xs) zero v q h same l = twice (same_atom n q)
    where
      twice : (b : Bool) → cond b (view v) (reads view default ns xs q) ≡ cond b (view v) (cond b (view x) (reads view default ns xs q))
      twice true = refl
      twice false = refl
  reads_set (n ∷ ns) (x ∷ xs) (suc k) v q h same l = ap (λ z. cond (same_atom n q) (view x) z) (reads_set ns xs k v q h.1 (suc_same (length xs) (length ns) same) (suc_less k (length ns) l))
      ∙ swapped (same_atom n q) (same_atom (name_at ns k) q) (λ e f. clash (sym (atom_same n (name_at ns k) (atom_is n q e ∙ sym (atom_is (name_at ns k) q f))) ∙ other_at n ns k h.0 (suc_less k (length ns) l)))
    where
      swapped : (b c : Bool) → (b ≡ true → c ≡ true → ⊥) → cond b (view x) (cond c (view v) (reads view default ns xs q)) ≡ cond c (view v) (cond b (view x) (reads view default ns xs q))
      swapped true true n = absurd (n refl refl)
      swapped true false n = refl
      swapped false c n = refl

  -- where the same stands at each place
  pub reads_all : (names : List Node) (xs : List A) (d : A) (q : Node) → ((k : ℕ) → k < length xs → view (get_or xs k d) ≡ default) → reads view default names xs q ≡ default
  reads_all [] xs d q h = refl
  reads_all (n ∷ ns) [] d q h = refl
  reads_all (n ∷ ns) (x ∷ xs) d q h = ap (λ z. cond (same_atom n q) z (reads view default ns xs q)) (h zero (above (length xs)))
      ∙ (ap (λ z. cond (same_atom n q) default z) (reads_all ns xs d q (λ k l. h (suc k) (less_suc k (length xs) l))) ∙ both (same_atom n q))
    where
      above : (n : ℕ) → 0 < suc n
      above n = omega arith

      less_suc : (k n : ℕ) → k < n → suc k < suc n
      less_suc k n l = omega arith

      both : (b : Bool) → cond b default default ≡ default
      both true = refl
      both false = refl

-- a node has a place, or no name is its own
pub place_cases : (names : List Node) (q : Node) → ((k : ℕ) × (k < length names) × (q ≡ name_at names k)) ⊎ (list_any (same_atom q) names ≡ false)
place_cases [] q = inr refl
place_cases (n ∷ ns) q = go (split (same_atom q n)) (place_cases ns q)
  where
    above : (n : ℕ) → 0 < suc n
    above n = omega arith

    less_suc : (k n : ℕ) → k < n → suc k < suc n
    less_suc k n l = omega arith

    go : (same_atom q n ≡ true) ⊎ (same_atom q n ≡ false) → ((k : ℕ) × (k < length ns) × (q ≡ name_at ns k)) ⊎ (list_any (same_atom q) ns ≡ false)
        → ((k : ℕ) × (k < suc (length ns)) × (q ≡ name_at (n ∷ ns) k)) ⊎ ((same_atom q n || list_any (same_atom q) ns) ≡ false)
    go (inl e) r = inl (zero, above (length ns), atom_is q n e)
    go (inr e) (inl r) = inl (suc r.0, less_suc r.0 (length ns) r.1, r.2)
    go (inr e) (inr f) = inr (ap (λ b. b || list_any (same_atom q) ns) e ∙ f)

-- two functions of nodes are one where they agree at each place, and beyond
pub by_places : {B : Type 0} (names : List Node) (f g : Node → B) → ((k : ℕ) → k < length names → f (name_at names k) ≡ g (name_at names k))
    → ((q : Node) → list_any (same_atom q) names ≡ false → f q ≡ g q) → f ≡ g
by_places {B} names f g here beyond = fun_ext (λ q. go q (place_cases names q))
  where
    go : (q : Node) → ((k : ℕ) × (k < length names) × (q ≡ name_at names k)) ⊎ (list_any (same_atom q) names ≡ false) → f q ≡ g q
    go q (inl r) = ap f r.2 ∙ (here r.0 r.1 ∙ ap g (sym r.2))
    go q (inr e) = beyond q e

-- ---- tests of all

pub all_below_same : (n : ℕ) (p q : ℕ → Bool) → ((k : ℕ) → k < n → p k ≡ q k) → all_below n p ≡ all_below n q
all_below_same zero p q h = refl
all_below_same (suc n) p q h = ap (λ b. b && all_below n p) (h n (last n)) ∙ ap (λ b. q n && b) (all_below_same n p q (λ k l. h k (more k n l)))
  where
    last : (n : ℕ) → n < suc n
    last n = omega arith

    more : (k n : ℕ) → k < n → k < suc n
    more k n l = omega arith

-- the first place may be asked first
all_below_first : (n : ℕ) (p : ℕ → Bool) → all_below (suc n) p ≡ (p 0 && all_below n (λ k. p (suc k)))
all_below_first zero p = refl
all_below_first (suc n) p = ap (λ b. p (suc n) && b) (all_below_first n p) ∙ swap (p (suc n)) (p 0) (all_below n (λ k. p (suc k)))
  where
    swap : (a b c : Bool) → (a && (b && c)) ≡ (b && (a && c))
    swap true b c = refl
    swap false true c = refl
    swap false false c = refl

pub all_names : (names : List Node) (p : Node → Bool) → list_all p names ≡ all_below (length names) (λ k. p (name_at names k))
all_names [] p = refl
all_names (n ∷ ns) p = ap (λ b. p n && b) (all_names ns p) ∙ sym (all_below_first (length ns) (λ k. p (name_at (n ∷ ns) k)))

pub all_filtered : {X : Type 0} (test p : X → Bool) (xs : List X) → list_all p (filter test xs) ≡ list_all (λ x. not (test x) || p x) xs
all_filtered test p [] = refl
all_filtered test p (x ∷ xs) = go (test x) (all_filtered test p xs)
  where
    go : (b : Bool) → list_all p (filter test xs) ≡ list_all (λ x. not (test x) || p x) xs
        → list_all p (cond b (x ∷ filter test xs) (filter test xs)) ≡ ((not b || p x) && list_all (λ x. not (test x) || p x) xs)
    go true e = ap (λ b. p x && b) e
    go false e = e

pub any_filtered : {X : Type 0} (test p : X → Bool) (xs : List X) → list_any p (filter test xs) ≡ list_any (λ x. test x && p x) xs
any_filtered test p [] = refl
any_filtered test p (x ∷ xs) = go (test x) (any_filtered test p xs)
  where
    go : (b : Bool) → list_any p (filter test xs) ≡ list_any (λ x. test x && p x) xs
        → list_any p (cond b (x ∷ filter test xs) (filter test xs)) ≡ ((b && p x) || list_any (λ x. test x && p x) xs)
    go true e = ap (λ b. p x || b) e
    go false e = e
