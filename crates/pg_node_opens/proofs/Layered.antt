-- Lists that say functions: what a push, a removal and a change of one item make of the function.
use Rattle.std.proofs.Common.{◌≡◌, ℕ, zero, suc, true, false, List, [], ◌∷◌, ◌++◌}
use Rattle.std.proofs.Common.{Option, Some, None, refl, ap, sym, ◌∙◌, subst, length}
use Rattle.std.specs.Prelude.{slice_set, slice_get}
use Rattle.std.specs.List.{remove}
use Rattle.pg_node_opens.specs.Layers.{over, seek, answers, others, AllAlone}

no_item : {A : Type 0} (a : A) → None ≡ Some a → ⊥
no_item a e = cc

pub one_item : {A : Type 0} (a b : A) → Some a ≡ Some b → a ≡ b
one_item a b e = cc

-- what does not answer
pub quiet_is : {B : Type 0} (o : Option B) → answers o ≡ false → o ≡ None
quiet_is None e = refl
quiet_is (Some v) e = absurd cc

pub quiet_left : {B : Type 0} (a b : Option B) → answers (over a b) ≡ false → answers a ≡ false
quiet_left None b e = refl
quiet_left (Some v) b e = e

pub quiet_right : {B : Type 0} (a b : Option B) → answers (over a b) ≡ false → answers b ≡ false
quiet_right None b e = e
quiet_right (Some v) b e = absurd cc

pub quiet_both : {B : Type 0} (a b : Option B) → answers a ≡ false → answers b ≡ false → answers (over a b) ≡ false
quiet_both None b e f = f
quiet_both (Some v) b e f = absurd cc

-- an answer that is alone counts wherever it stands
over_swap : {B : Type 0} (a b c : Option B) → (answers a ≡ true → answers (over b c) ≡ false) → over a (over b c) ≡ over b (over a c)
over_swap None b c n = refl
over_swap (Some x) None c n = refl
over_swap (Some x) (Some y) c n = absurd (let e : true ≡ false = n refl in cc)

pub over_assoc : {B : Type 0} (a b c : Option B) → over a (over b c) ≡ over (over a b) c
over_assoc None b c = refl
over_assoc (Some v) b c = refl

-- no item answers for a key that another one answers for
abbrev pub Apart : {A K B : Type 0} → (A → K → Option B) → List A → Type 0
Apart at [] = Unit {0}
Apart {A} {K} at (a ∷ xs) = ((x : K) → answers (at a x) ≡ true → answers (seek at xs x) ≡ false) × Apart at xs

module _ {A K B : Type 0} (at : A → K → Option B) where
  -- an item stands before the others, wherever it stood
  pub pull : (xs : List A) (k : ℕ) (a : A) → slice_get xs k ≡ Some a → Apart at xs → (x : K) → seek at xs x ≡ over (at a x) (seek at (others xs k) x)
  pull [] k a here apart x = absurd (no_item a here)
  pull (b ∷ bs) zero a here apart x = ap (λ z. over (at z x) (seek at bs x)) (one_item b a here)
  pull (b ∷ bs) (suc k) a here apart x = ap (over (at b x)) (pull bs k a here apart.1 x)
      ∙ over_swap (at b x) (at a x) (seek at (others bs k) x) (λ n. ap answers (sym (pull bs k a here apart.1 x)) ∙ apart.0 x n)

  -- what no item answers for, the others do not
  pub others_quiet : (xs : List A) (k : ℕ) (x : K) → answers (seek at xs x) ≡ false → answers (seek at (others xs k) x) ≡ false
  others_quiet [] k x e = e
  others_quiet (b ∷ bs) zero x e = quiet_right (at b x) (seek at bs x) e
  others_quiet (b ∷ bs) (suc k) x e = quiet_both (at b x) (seek at (others bs k) x) (quiet_left (at b x) (seek at bs x) e)
      (others_quiet bs k x (quiet_right (at b x) (seek at bs x) e))

  pub apart_others : (xs : List A) (k : ℕ) → Apart at xs → Apart at (others xs k)
  apart_others [] k apart = tt
  apart_others (b ∷ bs) zero apart = apart.1
  apart_others (b ∷ bs) (suc k) apart = (λ x n. others_quiet bs k x (apart.0 x n), apart_others bs k apart.1)

  -- what an item answers for, no other does
  pub alone : (xs : List A) (k : ℕ) (a : A) → slice_get xs k ≡ Some a → Apart at xs → (x : K) → answers (at a x) ≡ true → answers (seek at (others xs k) x) ≡ false
  alone [] k a here apart x n = absurd (no_item a here)
  alone (b ∷ bs) zero a here apart x n = apart.0 x (ap (λ z. answers (at z x)) (one_item b a here) ∙ n)
  alone (b ∷ bs) (suc k) a here apart x n = quiet_both (at b x) (seek at (others bs k) x) (left (at b x) refl) (alone bs k a here apart.1 x n)
    where
      clash : (o r : Option B) → answers o ≡ true → answers (over o r) ≡ false → ⊥
      clash None r e f = cc
      clash (Some v) r e f = cc

      left : (o : Option B) → at b x ≡ o → answers (at b x) ≡ false
      left None e = ap answers e
      left (Some v) e = absurd (clash (at a x) (seek at (others bs k) x) n (ap answers (sym (pull bs k a here apart.1 x)) ∙ apart.0 x (ap answers e)))

  -- an item is changed
  pub set_get : (xs : List A) (k : ℕ) (a a' : A) → slice_get xs k ≡ Some a → slice_get (slice_set xs k a') k ≡ Some a'
  set_get [] k a a' here = absurd (no_item a here)
  set_get (b ∷ bs) zero a a' here = refl
  set_get (b ∷ bs) (suc k) a a' here = set_get bs k a a' here

  pub set_others : (xs : List A) (k : ℕ) (a' : A) → others (slice_set xs k a') k ≡ others xs k
  set_others [] k a' = refl
  set_others (b ∷ bs) zero a' = refl
  set_others (b ∷ bs) (suc k) a' = ap (λ z. b ∷ z) (set_others bs k a')

  set_quiet : (xs : List A) (k : ℕ) (a' : A) (x : K) → answers (seek at xs x) ≡ false → answers (at a' x) ≡ false → answers (seek at (slice_set xs k a') x) ≡ false
  set_quiet [] k a' x e f = e
  set_quiet (b ∷ bs) zero a' x e f = quiet_both (at a' x) (seek at bs x) f (quiet_right (at b x) (seek at bs x) e)
  set_quiet (b ∷ bs) (suc k) a' x e f = quiet_both (at b x) (seek at (slice_set bs k a') x) (quiet_left (at b x) (seek at bs x) e)
      (set_quiet bs k a' x (quiet_right (at b x) (seek at bs x) e) f)

  pub set_apart : (xs : List A) (k : ℕ) (a' : A) → Apart at xs → ((x : K) → answers (at a' x) ≡ true → answers (seek at (others xs k) x) ≡ false) → Apart at (slice_set xs k a')
  set_apart [] k a' apart free = tt
  set_apart (b ∷ bs) zero a' apart free = (free, apart.1)
  set_apart (b ∷ bs) (suc k) a' apart free =
      (λ x n. set_quiet bs k a' x (apart.0 x n) (other x n (at a' x) refl), set_apart bs k a' apart.1 (λ x n. quiet_right (at b x) (seek at (others bs k) x) (free x n)))
    where
      clash : (o r : Option B) → answers o ≡ true → answers (over o r) ≡ false → ⊥
      clash None r e f = cc
      clash (Some v) r e f = cc

      other : (x : K) → answers (at b x) ≡ true → (o : Option B) → at a' x ≡ o → answers (at a' x) ≡ false
      other x n None e = ap answers e
      other x n (Some v) e = absurd (clash (at b x) (seek at (others bs k) x) n (free x (ap answers e)))

  pub pull_set : (xs : List A) (k : ℕ) (a a' : A) → slice_get xs k ≡ Some a → Apart at xs → ((x : K) → answers (at a' x) ≡ true → answers (seek at (others xs k) x) ≡ false)
      → (x : K) → seek at (slice_set xs k a') x ≡ over (at a' x) (seek at (others xs k) x)
  pull_set xs k a a' here apart free x = pull (slice_set xs k a') k a' (set_get xs k a a' here) (set_apart xs k a' apart free) x
      ∙ ap (λ z. over (at a' x) (seek at z x)) (set_others xs k a')

  -- an item is added
  pub push_seek : (xs : List A) (a : A) (x : K) → seek at (xs ++ a ∷ []) x ≡ over (seek at xs x) (over (at a x) None)
  push_seek [] a x = refl
  push_seek (b ∷ bs) a x = ap (over (at b x)) (push_seek bs a x) ∙ over_assoc (at b x) (seek at bs x) (over (at a x) None)

  pub push_apart : (xs : List A) (a : A) → Apart at xs → ((x : K) → answers (at a x) ≡ true → answers (seek at xs x) ≡ false) → Apart at (xs ++ a ∷ [])
  push_apart [] a apart free = (λ x n. refl, tt)
  push_apart (b ∷ bs) a apart free = (
    λ x n. ap answers (push_seek bs a x) ∙ quiet_both (seek at bs x) (over (at a x) None) (apart.0 x n) (quiet_both (at a x) None (other x n (at a x) refl) refl),
    push_apart bs a apart.1 (λ x n. quiet_right (at b x) (seek at bs x) (free x n)),
  )
    where
      clash : (o r : Option B) → answers o ≡ true → answers (over o r) ≡ false → ⊥
      clash None r e f = cc
      clash (Some v) r e f = cc

      other : (x : K) → answers (at b x) ≡ true → (o : Option B) → at a x ≡ o → answers (at a x) ≡ false
      other x n None e = ap answers e
      other x n (Some v) e = absurd (clash (at b x) (seek at bs x) n (free x (ap answers e)))

  pub apart_of : (xs : List A) → AllAlone at xs → Apart at xs
  apart_of [] h = tt
  apart_of (b ∷ bs) h = (
    λ x n. h zero b x refl n,
    apart_of bs (λ k a x here n. quiet_right (at b x) (seek at (others bs k) x) (h (suc k) a x here n)),
  )

  pub alone_of : (xs : List A) → Apart at xs → AllAlone at xs
  alone_of xs apart k a x here n = alone xs k a here apart x n

  -- what is known of each item, where one is changed
  pub set_each : (P : A → Type 0) (xs : List A) (k : ℕ) (a' : A) → ((j : ℕ) (a : A) → slice_get xs j ≡ Some a → P a) → P a' → (j : ℕ) (a : A) → slice_get (slice_set xs k a') j ≡ Some a → P a
  set_each P [] k a' all this j a here = all j a here
  set_each P (b ∷ bs) zero a' all this zero a here = subst P (one_item a' a here) this
  set_each P (b ∷ bs) zero a' all this (suc j) a here = all (suc j) a here
  set_each P (b ∷ bs) (suc k) a' all this zero a here = all zero a here
  set_each P (b ∷ bs) (suc k) a' all this (suc j) a here = set_each P bs k a' (λ j a h. all (suc j) a h) this j a here

  pub others_each : (P : A → Type 0) (xs : List A) (k : ℕ) → ((j : ℕ) (a : A) → slice_get xs j ≡ Some a → P a) → (j : ℕ) (a : A) → slice_get (others xs k) j ≡ Some a → P a
  others_each P [] k all j a here = all j a here
  others_each P (b ∷ bs) zero all j a here = all (suc j) a here
  others_each P (b ∷ bs) (suc k) all zero a here = all zero a here
  others_each P (b ∷ bs) (suc k) all (suc j) a here = others_each P bs k (λ j a h. all (suc j) a h) j a here

  pub push_each : (P : A → Type 0) (xs : List A) (a' : A) → ((j : ℕ) (a : A) → slice_get xs j ≡ Some a → P a) → P a' → (j : ℕ) (a : A) → slice_get (xs ++ a' ∷ []) j ≡ Some a → P a
  push_each P [] a' all this zero a here = subst P (one_item a' a here) this
  push_each P [] a' all this (suc j) a here = absurd (no_item a here)
  push_each P (b ∷ bs) a' all this zero a here = all zero a here
  push_each P (b ∷ bs) a' all this (suc j) a here = push_each P bs a' (λ j a h. all (suc j) a h) this j a here

  pub set_length : (xs : List A) (k : ℕ) (a' : A) → length (slice_set xs k a') ≡ length xs
  set_length [] k a' = refl
  set_length (b ∷ bs) zero a' = refl
  set_length (b ∷ bs) (suc k) a' = ap suc (set_length bs k a')

  pub others_length : (xs : List A) (k : ℕ) (a : A) → slice_get xs k ≡ Some a → suc (length (others xs k)) ≡ length xs
  others_length [] k a here = absurd (no_item a here)
  others_length (b ∷ bs) zero a here = refl
  others_length (b ∷ bs) (suc k) a here = ap suc (others_length bs k a here)

  pub others_remove : (xs : List A) (k : ℕ) → remove xs k ≡ others xs k
  others_remove [] zero = refl
  others_remove [] (suc k) = refl
  others_remove (b ∷ bs) zero = refl
  others_remove (b ∷ bs) (suc k) = ap (λ z. b ∷ z) (others_remove bs k)
