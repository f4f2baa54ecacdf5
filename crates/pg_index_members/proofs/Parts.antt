-- Parts one after the other, as one list of rows.
use Rattle.std.proofs.Common.{◌≡◌, ℕ, suc, zero, ◌+◌, ◌-◌, ◌<◌, ◌≤◌, Bool, true, false, ◌&&◌, cond}
use Rattle.std.proofs.Common.{Some, List, [], ◌∷◌, ◌++◌, length, get_or, take, drop, set, refl, sym}
use Rattle.std.proofs.Common.{ap, subst, ◌∙◌, arith, add-one, append_assoc, append-nil, length-append}
use Rattle.std.specs.Prelude.{slice_get, nat_le}
use Rattle.std.proofs.lemmas.Bool.Decides.{nat_tests}
use Rattle.std.specs.List.{AllByRecursion, flat_map, insert, remove}
use Rattle.std.specs.Ordering.{is_lt}
use Rattle.std.proofs.lemmas.List.{take-append-drop, set_split, take_more_set, take-set, drop-set-lt}
use Rattle.std.proofs.lemmas.List.Concat.{flat_map-append}
use Rattle.std.proofs.Math.Seq.{drop-cons}
use Rattle.std.specs.declared.cmp.Ordering.{Ordering}
use Rattle.std.specs.declared.cmp.Ordering.TheVariants.{Less, Equal, Greater}
use Rattle.pg_term.specs.declared.pid.Pid.{Pid}
use Rattle.pg_term.specs.Same.{pid_cmp}
use Rattle.pg_group.specs.Scope.{anywhere}
use Rattle.pg_index_members.specs.declared.row.Row.{Row}
use Rattle.pg_index_members.specs.Rows.{counts_of, total_of, spread, AreRows, all_before, added, added_by, one_taken}
use Rattle.pg_index_members.specs.Levels.{NoneEmpty, IsChoice, IsHome}
use Rattle.pg_index_members.specs.Edges.{IsDownward}
use Rattle.pg_index_members.proofs.Order.{less_if}
use Rattle.pg_index_members.proofs.Flat.{below, all_append, all_left, all_right, all_map, total-append}
use Rattle.pg_index_members.proofs.Flat.{counts-append, rows_left, rows_right, rows_across, later_greater, none_less}
use Rattle.pg_index_members.proofs.Flat.{none_greater, added_after, added_before, taken_after, taken_before}
use Rattle.pg_group.specs.Members.{put}
use Rattle.pg_group.proofs.Put.{length-put, get-put_low, get-put_high}
use Rattle.pg_index_members.proofs.Places.{spread-append}

-- ---- two lists of rows

-- a list with rows decides for what stands before it
pub before_right : (p : Pid → Bool) → IsDownward p → (a b : List Row) → AreRows (a ++ b) → 0 < length b → all_before p (a ++ b) ≡ all_before p b
before_right p down [] b h k = refl
before_right p down (r ∷ a) [] h k = absurd (omega arith)
before_right p down (r ∷ a) (s ∷ b) h k = go (all_before p (s ∷ b)) refl (before_right p down a (s ∷ b) h.2 k)
  where
    both : (x y : Bool) → y ≡ false → (x && y) ≡ false
    both true y e = e
    both false y e = refl

    first : (x y : Bool) → (x && y) ≡ true → x ≡ true
    first true y e = refl
    first false y e = absurd cc

    go : (v : Bool) → all_before p (s ∷ b) ≡ v → all_before p (a ++ s ∷ b) ≡ all_before p (s ∷ b) → (p r.pid && all_before p (a ++ s ∷ b)) ≡ all_before p (s ∷ b)
    go true e f = ap (λ t. t && all_before p (a ++ s ∷ b)) (down r.pid s.pid (all_right (λ later. pid_cmp r.pid later.pid ≡ Less) a (s ∷ b) h.1).0 (first (p s.pid) (all_before p b) e)) ∙ f
    go false e f = both (p r.pid) (all_before p (a ++ s ∷ b)) (f ∙ e) ∙ sym e

pub not_later : (p : Pid → Bool) → IsDownward p → (r : Row) (bs : List Row) → p r.pid ≡ false → AllByRecursion (λ later. pid_cmp r.pid later.pid ≡ Less) bs → AllByRecursion (λ s. p s.pid ≡ false) bs
not_later p down r [] e h = tt
not_later p down r (s ∷ bs) e h = (one (p s.pid) refl, not_later p down r bs e h.1)
  where
    one : (v : Bool) → p s.pid ≡ v → p s.pid ≡ false
    one true f = absurd (let g : p r.pid ≡ true = down r.pid s.pid h.0 f in cc)
    one false f = f

head_or : {A : Type 0} (v w : Bool) → (v && w) ≡ false → (v ≡ false → A) → (w ≡ false → A) → A
head_or true w e f g = g e
head_or false w e f g = f refl

-- a row that is not before the edge has such rows after it
pub after_right : (p : Pid → Bool) → IsDownward p → (a b : List Row) → AreRows (a ++ b) → all_before p a ≡ false → AllByRecursion (λ r. p r.pid ≡ false) b
after_right p down [] b h e = absurd cc
after_right p down (r ∷ a) b h e = head_or (p r.pid) (all_before p a) e (λ f. not_later p down r b f (all_right (λ later. pid_cmp r.pid later.pid ≡ Less) a b h.1)) (λ f. after_right p down a b h.2 f)

pub greater_right : (pid : Pid) (a b : List Row) → AreRows (a ++ b) → all_before (below pid) a ≡ false → AllByRecursion (λ r. pid_cmp pid r.pid ≡ Less) b
greater_right pid [] b h e = absurd cc
greater_right pid (r ∷ a) b h e = head_or (below pid r.pid) (all_before (below pid) a) e (λ f. all_right (λ s. pid_cmp pid s.pid ≡ Less) a b (later_greater pid r (a ++ b) h f)) (λ f. greater_right pid a b h.2 f)

first_of : (v w : Bool) → (v && w) ≡ true → v ≡ true
first_of true w e = refl
first_of false w e = absurd cc

second_of : (v w : Bool) → (v && w) ≡ true → w ≡ true
second_of true w e = e
second_of false w e = absurd cc

all_of_before : (p : Pid → Bool) (a : List Row) → all_before p a ≡ true → AllByRecursion (λ r. p r.pid ≡ true) a
all_of_before p [] e = tt
all_of_before p (r ∷ a) e = (first_of (p r.pid) (all_before p a) e, all_of_before p a (second_of (p r.pid) (all_before p a) e))

pub less_of : (pid : Pid) (a : List Row) → AllByRecursion (λ r. below pid r.pid ≡ true) a → AllByRecursion (λ r. pid_cmp r.pid pid ≡ Less) a
less_of pid a h = all_map (λ r. below pid r.pid ≡ true) (λ r. pid_cmp r.pid pid ≡ Less) (λ r e. less_if (pid_cmp r.pid pid) e) a h

below_of : (pid : Pid) (a : List Row) → AllByRecursion (λ r. pid_cmp r.pid pid ≡ Less) a → AllByRecursion (λ r. below pid r.pid ≡ true) a
below_of pid a h = all_map (λ r. pid_cmp r.pid pid ≡ Less) (λ r. below pid r.pid ≡ true) (λ r e. ap is_lt e) a h

-- ---- places in two lists of rows

pub place_left : (a b : List Row) (i : ℕ) → i < total_of a → slice_get (spread anywhere (a ++ b)) i ≡ slice_get (spread anywhere a) i
place_left [] b i h = absurd (omega arith)
place_left (r ∷ a) b i h = go (nat_le r.count i) refl (λ k. place_left a b (i - r.count) k)
  where
    go : (v : Bool) → nat_le r.count i ≡ v → (i - r.count < total_of a → slice_get (spread anywhere (a ++ b)) (i - r.count) ≡ slice_get (spread anywhere a) (i - r.count)) → slice_get (spread anywhere (r ∷ (a ++ b))) i ≡ slice_get (spread anywhere (r ∷ a)) i
    go true e next = let k : r.count ≤ i = grind (arith, nat_tests) in get-put_high r.count r.pid (spread anywhere (a ++ b)) i k ∙ next (omega arith) ∙ sym (get-put_high r.count r.pid (spread anywhere a) i k)
    go false e next = let k : i < r.count = grind (arith, nat_tests) in get-put_low r.count r.pid (spread anywhere (a ++ b)) i k ∙ sym (get-put_low r.count r.pid (spread anywhere a) i k)

pub place_right : (a b : List Row) (i : ℕ) → total_of a ≤ i → slice_get (spread anywhere (a ++ b)) i ≡ slice_get (spread anywhere b) (i - total_of a)
place_right [] b i h = let e : i ≡ i - 0 = omega arith in ap (slice_get (spread anywhere b)) e
place_right (r ∷ a) b i h =
    let k : r.count ≤ i = omega arith in
    let e : i - r.count - total_of a ≡ i - (r.count + total_of a) = omega arith in
    get-put_high r.count r.pid (spread anywhere (a ++ b)) i k ∙ place_right a b (i - r.count) (omega arith) ∙ ap (slice_get (spread anywhere b)) e

pub length-spread-append : (p : Pid → Bool) (a b : List Row) → length (spread p (a ++ b)) ≡ length (spread p a) + length (spread p b)
length-spread-append p [] b = omega arith
length-spread-append p (r ∷ a) b = let e = length-spread-append p a b in let f = length-put (cond (p r.pid) r.count 0) r.pid (spread p (a ++ b)) in let g = length-put (cond (p r.pid) r.count 0) r.pid (spread p a) in omega arith

length_before : (p : Pid → Bool) (a : List Row) → AllByRecursion (λ r. p r.pid ≡ true) a → length (spread p a) ≡ total_of a
length_before p [] h = refl
length_before p (r ∷ a) h = ap (λ t. length (put (cond t r.count 0) r.pid (spread p a))) h.0 ∙ (let e = length_before p a h.1 in let f = length-put r.count r.pid (spread p a) in omega arith)

pub length_after : (p : Pid → Bool) (a : List Row) → AllByRecursion (λ r. p r.pid ≡ false) a → length (spread p a) ≡ 0
length_after p [] h = refl
length_after p (r ∷ a) h = ap (λ t. length (put (cond t r.count 0) r.pid (spread p a))) h.0 ∙ length_after p a h.1

-- those before an edge are no more than all
pub length-spread_le : (p : Pid → Bool) (a : List Row) → length (spread p a) ≤ total_of a
length-spread_le p [] = omega arith
length-spread_le p (r ∷ a) = go (p r.pid) (length-spread_le p a)
  where
    go : (v : Bool) → length (spread p a) ≤ total_of a → length (put (cond v r.count 0) r.pid (spread p a)) ≤ r.count + total_of a
    go true e = let f = length-put r.count r.pid (spread p a) in omega arith
    go false e = omega arith

pub some_added : (pid : Pid) (n : ℕ) (rows : List Row) → 0 < length (added rows pid n)
some_added pid n [] = omega arith
some_added pid n (r ∷ rs) = go (pid_cmp r.pid pid)
  where
    go : (o : Ordering) → 0 < length (added_by o r rs (added rs pid n) pid n)
    go Less = omega arith
    go Equal = omega arith
    go Greater = omega arith

pub empty_if : (rows : List Row) → AreRows rows → total_of rows ≡ 0 → rows ≡ []
empty_if [] h e = refl
empty_if (r ∷ rs) h e = absurd (let k = h.0 in omega arith)

pub some_if : (rows : List Row) → (rows ≡ [] → ⊥) → 0 < length rows
some_if [] h = absurd (h refl)
some_if (r ∷ rs) h = omega arith

module _ {P : Type 0} (rows : P → List Row) where
  abbrev pub flat : List P → List Row
  flat parts = flat_map rows parts

  -- ---- one part of many

  pub around : (parts : List P) (i : ℕ) (part : P) → i < length parts → part ≡ get_or parts i part → flat parts ≡ flat (take i parts) ++ (rows part ++ flat (drop (suc i) parts))
  around parts i part h is =
      ap flat (sym (take-append-drop i parts) ∙ ap (λ l. take i parts ++ l) (drop-cons parts i part h ∙ ap (λ x. x ∷ drop (suc i) parts) (sym is)))
      ∙ flat_map-append rows (take i parts) (part ∷ drop (suc i) parts)

  pub around_set : (parts : List P) (i : ℕ) (part : P) → i < length parts → flat (set parts i part) ≡ flat (take i parts) ++ (rows part ++ flat (drop (suc i) parts))
  around_set parts i part h = ap flat (set_split parts i part h) ∙ flat_map-append rows (take i parts) (part ∷ drop (suc i) parts)

  pub around_removed : (parts : List P) (i : ℕ) → flat (remove parts i) ≡ flat (take i parts) ++ flat (drop (suc i) parts)
  around_removed parts i = flat_map-append rows (take i parts) (drop (suc i) parts)

  none_empty_at : (parts : List P) (i : ℕ) (d : P) → NoneEmpty rows parts → i < length parts → 0 < length (rows (get_or parts i d))
  none_empty_at [] i d h k = absurd (omega arith)
  none_empty_at (x ∷ xs) zero d h k = h.0
  none_empty_at (x ∷ xs) (suc i) d h k = none_empty_at xs i d h.1 (omega arith)

  pub none_empty_set : (parts : List P) (i : ℕ) (part : P) → NoneEmpty rows parts → 0 < length (rows part) → NoneEmpty rows (set parts i part)
  none_empty_set [] i part h k = tt
  none_empty_set (x ∷ xs) zero part h k = (k, h.1)
  none_empty_set (x ∷ xs) (suc i) part h k = (h.0, none_empty_set xs i part h.1 k)

  pub none_empty_take : (parts : List P) (i : ℕ) → NoneEmpty rows parts → NoneEmpty rows (take i parts)
  none_empty_take parts zero h = tt
  none_empty_take [] (suc i) h = tt
  none_empty_take (x ∷ xs) (suc i) h = (h.0, none_empty_take xs i h.1)

  pub none_empty_drop : (parts : List P) (i : ℕ) → NoneEmpty rows parts → NoneEmpty rows (drop i parts)
  none_empty_drop parts zero h = h
  none_empty_drop [] (suc i) h = tt
  none_empty_drop (x ∷ xs) (suc i) h = none_empty_drop xs i h.1

  none_empty_append : (xs ys : List P) → NoneEmpty rows xs → NoneEmpty rows ys → NoneEmpty rows (xs ++ ys)
  none_empty_append [] ys h k = k
  none_empty_append (x ∷ xs) ys h k = (h.0, none_empty_append xs ys h.1 k)

  pub none_empty_insert : (parts : List P) (i : ℕ) (part : P) → NoneEmpty rows parts → 0 < length (rows part) → NoneEmpty rows (insert parts i part)
  none_empty_insert parts i part h k = none_empty_append (take i parts) (part ∷ drop i parts) (none_empty_take parts i h) (k, none_empty_drop parts i h)

  pub none_empty_remove : (parts : List P) (i : ℕ) → NoneEmpty rows parts → NoneEmpty rows (remove parts i)
  none_empty_remove parts i h = none_empty_append (take i parts) (drop (suc i) parts) (none_empty_take parts i h) (none_empty_drop parts (suc i) h)

  -- ---- the search for a part

  pub all_part : (Q : Row → Type 0) (parts : List P) (i : ℕ) (d : P) → i < length parts → AllByRecursion Q (flat parts) → AllByRecursion Q (rows (get_or parts i d))
  all_part Q [] i d k h = absurd (omega arith)
  all_part Q (x ∷ xs) zero d k h = all_left Q (rows x) (flat xs) h
  all_part Q (x ∷ xs) (suc i) d k h = all_part Q xs i d (omega arith) (all_right Q (rows x) (flat xs) h)

  passes : (p : Pid → Bool) → IsDownward p → (a b : List Row) → 0 < length b → all_before p b ≡ true → AllByRecursion (λ r. AllByRecursion (λ s. pid_cmp r.pid s.pid ≡ Less) b) a → AllByRecursion (λ r. p r.pid ≡ true) a
  passes p down a [] k e h = absurd (omega arith)
  passes p down a (s ∷ b) k e h = all_map (λ r. AllByRecursion (λ s. pid_cmp r.pid s.pid ≡ Less) (s ∷ b)) (λ r. p r.pid ≡ true) (λ r f. down r.pid s.pid f.0 (all_of_before p (s ∷ b) e).0) a h

  front : (p : Pid → Bool) → IsDownward p → (parts : List P) (i : ℕ) (d : P) → AreRows (flat parts) → NoneEmpty rows parts → i < length parts → all_before p (rows (get_or parts i d)) ≡ true → AllByRecursion (λ r. p r.pid ≡ true) (flat (take (suc i) parts))
  front p down [] i d h n k e = absurd (omega arith)
  front p down (x ∷ xs) zero d h n k e = all_append (λ r. p r.pid ≡ true) (rows x) [] (all_of_before p (rows x) e) tt
  front p down (x ∷ xs) (suc i) d h n k e =
      all_append (λ r. p r.pid ≡ true) (rows x) (flat (take (suc i) xs))
      (passes p down (rows x) (rows (get_or xs i d)) (none_empty_at xs i d n.1 (omega arith)) e
      (all_map (λ r. AllByRecursion (λ s. pid_cmp r.pid s.pid ≡ Less) (flat xs)) (λ r. AllByRecursion (λ s. pid_cmp r.pid s.pid ≡ Less) (rows (get_or xs i d))) (λ r f. all_part (λ s. pid_cmp r.pid s.pid ≡ Less) xs i d (omega arith) f) (rows x) (rows_across (rows x) (flat xs) h)))
      (front p down xs i d (rows_right (rows x) (flat xs) h) n.1 (omega arith) e)

  pub front_more : (p : Pid → Bool) → IsDownward p → (parts : List P) (i : ℕ) (d : P) → AreRows (flat parts) → NoneEmpty rows parts → i < length parts → all_before p (rows (get_or parts i d)) ≡ true → AllByRecursion (λ r. p r.pid ≡ true) (flat (take (i + 1) parts))
  front_more p down parts i d h n k e = subst (λ (m : ℕ). AllByRecursion (λ r. p r.pid ≡ true) (flat (take m parts))) (sym (add-one i)) (front p down parts i d h n k e)

  -- the last part decides for the whole
  last_ends : (parts : List P) (i : ℕ) (part : P) → i + 1 ≡ length parts → slice_get parts i ≡ Some part → take i parts ++ part ∷ [] ≡ parts
  last_ends [] i part h e = absurd (omega arith)
  last_ends (x ∷ []) zero part h e = let f : x ≡ part = cc in ap (λ t. t ∷ []) (sym f)
  last_ends (x ∷ (y ∷ ys)) zero part h e = absurd (omega arith)
  last_ends (x ∷ xs) (suc i) part h e = ap (λ l. x ∷ l) (last_ends xs i part (omega arith) e)

  some_part : (parts : List P) (i : ℕ) (part : P) → slice_get parts i ≡ Some part → 0 < length parts
  some_part [] i part e = absurd cc
  some_part (x ∷ xs) i part e = omega arith

  one_part : (part : P) → flat (part ∷ []) ≡ rows part
  one_part part = append-nil (rows part)

  last_some : (parts : List P) (i : ℕ) (part : P) → NoneEmpty rows parts → slice_get parts i ≡ Some part → 0 < length (rows part)
  last_some [] i part h e = absurd cc
  last_some (x ∷ xs) zero part h e = let f : x ≡ part = cc in subst (λ (y : P). 0 < length (rows y)) f h.0
  last_some (x ∷ xs) (suc i) part h e = last_some xs i part h.1 e

  pub last_of : (p : Pid → Bool) → IsDownward p → (parts : List P) (part : P) → AreRows (flat parts) → NoneEmpty rows parts → slice_get parts (length parts - 1) ≡ Some part → all_before p (flat parts) ≡ all_before p (rows part)
  last_of p down parts part h n e =
      let some = some_part parts (length parts - 1) part e in
      let ends : take (length parts - 1) parts ++ part ∷ [] ≡ parts = last_ends parts (length parts - 1) part (omega arith) e in
      let is : flat parts ≡ flat (take (length parts - 1) parts) ++ rows part = ap flat (sym ends) ∙ flat_map-append rows (take (length parts - 1) parts) (part ∷ []) ∙ ap (λ l. flat (take (length parts - 1) parts) ++ l) (one_part part) in
      ap (all_before p) is ∙ before_right p down (flat (take (length parts - 1) parts)) (rows part) (subst AreRows is h) (last_some parts (length parts - 1) part n e)

  pub nothing : (parts : List P) → NoneEmpty rows parts → flat parts ≡ [] → parts ≡ []
  nothing [] h e = refl
  nothing (x ∷ xs) h e = absurd (let f = length-append (rows x) (flat xs) in let g : length (rows x ++ flat xs) ≡ 0 = ap length e in let k = h.0 in omega arith)

  -- ---- some first parts, and the others

  split_at : (parts : List P) (i : ℕ) → flat (take i parts) ++ flat (drop i parts) ≡ flat parts
  split_at parts i = sym (flat_map-append rows (take i parts) (drop i parts)) ∙ ap flat (take-append-drop i parts)

  pub halves : (parts : List P) (i : ℕ) → flat parts ≡ flat (take i parts) ++ flat (drop i parts)
  halves parts i = sym (split_at parts i)

  pub total_split : (parts : List P) (i : ℕ) → total_of (flat (take i parts)) + total_of (flat (drop i parts)) ≡ total_of (flat parts)
  total_split parts i = sym (total-append (flat (take i parts)) (flat (drop i parts))) ∙ ap total_of (split_at parts i)

  pub rows_front : (parts : List P) (i : ℕ) → AreRows (flat parts) → AreRows (flat (take i parts))
  rows_front parts i h = rows_left (flat (take i parts)) (flat (drop i parts)) (subst AreRows (halves parts i) h)

  pub rows_rest : (parts : List P) (i : ℕ) → AreRows (flat parts) → AreRows (flat (drop i parts))
  rows_rest parts i h = rows_right (flat (take i parts)) (flat (drop i parts)) (subst AreRows (halves parts i) h)

  pub some_rows : (parts : List P) → NoneEmpty rows parts → 0 < length parts → 0 < length (flat parts)
  some_rows [] h k = absurd (omega arith)
  some_rows (x ∷ xs) h k = let e = length-append (rows x) (flat xs) in let f = h.0 in omega arith

  -- one part more of a walk
  pub total_next : (parts : List P) (i : ℕ) (part : P) → i < length parts → part ≡ get_or parts i part → total_of (flat (drop i parts)) ≡ total_of (rows part) + total_of (flat (drop (i + 1) parts))
  total_next parts i part k is = ap (λ l. total_of (flat l)) (drop-cons parts i part k ∙ ap (λ x. x ∷ drop (suc i) parts) (sym is)) ∙ total-append (rows part) (flat (drop (suc i) parts)) ∙ ap (λ n. total_of (rows part) + total_of (flat (drop n parts))) (sym (add-one i))

  module _ (whole : List Row) (items : List P) (same : flat items ≡ whole) (i : ℕ) (part : P) (left : ℕ) (within : i < length items) (is : part ≡ get_or items i part) where
    next : flat (drop i items) ≡ rows part ++ flat (drop (suc i) items)
    next = ap flat (drop-cons items i part within ∙ ap (λ x. x ∷ drop (suc i) items) (sym is))

    pub found_here : left < total_of (rows part) → slice_get (spread anywhere (rows part)) left ≡ slice_get (spread anywhere (flat (drop i items))) left
    found_here h = sym (ap (λ l. slice_get (spread anywhere l) left) next ∙ place_left (rows part) (flat (drop (suc i) items)) left h)

    pub found_later : total_of (rows part) ≤ left → slice_get (spread anywhere (flat (drop (i + 1) items))) (left - total_of (rows part)) ≡ slice_get (spread anywhere (flat (drop i items))) left
    found_later h = ap (λ n. slice_get (spread anywhere (flat (drop n items))) (left - total_of (rows part))) (add-one i) ∙ sym (ap (λ l. slice_get (spread anywhere l) left) next ∙ place_right (rows part) (flat (drop (suc i) items)) left h)

  -- a walk that lists one part more
  pub listed_more : (among : Pid → Bool) (items : List P) (i : ℕ) (part : P) → i < length items → part ≡ get_or items i part → (told now all : List Pid) → now ≡ told ++ spread among (rows part) → told ++ spread among (flat (drop i items)) ≡ all → now ++ spread among (flat (drop (i + 1) items)) ≡ all
  listed_more among items i part within is told now all e h =
      (λ j. e j ++ spread among (flat (drop (add-one i j) items)))
      ∙ append_assoc told (spread among (rows part)) (spread among (flat (drop (suc i) items)))
      ∙ ap (λ l. told ++ l) (sym (spread-append among (rows part) (flat (drop (suc i) items))) ∙ ap (λ l. spread among (flat l)) (sym (drop-cons items i part within ∙ ap (λ x. x ∷ drop (suc i) items) (sym is))))
      ∙ h

  pub set_kept : (parts : List P) (i : ℕ) (part next : P) → i < length parts → part ≡ get_or parts i part → rows next ≡ rows part → flat (set parts i next) ≡ flat parts
  set_kept parts i part next k is e = around_set parts i next k ∙ ap (λ l. flat (take i parts) ++ (l ++ flat (drop (suc i) parts))) e ∙ sym (around parts i part k is)

  -- what is written at a place stands there
  pub written_at : (parts : List P) (i : ℕ) (part next : P) → i < length parts → part ≡ get_or (set parts i next) i part → part ≡ next
  written_at [] i part next k is = absurd (omega arith)
  written_at (x ∷ xs) zero part next k is = is
  written_at (x ∷ xs) (suc i) part next k is = written_at xs i part next (omega arith) is

  -- ---- a part split in two

  pub divided : (parts : List P) (i : ℕ) (part first later : P) → i < length parts → part ≡ get_or parts i part → rows part ≡ rows first ++ rows later → flat (insert (set parts i first) (i + 1) later) ≡ flat parts
  divided parts i part first later k is e =
      ap flat ((λ j. take_more_set parts i first k j ++ later ∷ drop-set-lt (i + 1) parts i first (omega arith) j))
      ∙ flat_map-append rows (take i parts ++ first ∷ []) (later ∷ drop (i + 1) parts)
      ∙ ap (λ l. l ++ flat (later ∷ drop (i + 1) parts)) (flat_map-append rows (take i parts) (first ∷ []) ∙ ap (λ l. flat (take i parts) ++ l) (one_part first))
      ∙ append_assoc (flat (take i parts)) (rows first) (rows later ++ flat (drop (i + 1) parts))
      ∙ ap (λ l. flat (take i parts) ++ l) (sym (append_assoc (rows first) (rows later) (flat (drop (i + 1) parts))) ∙ ap (λ l. l ++ flat (drop (i + 1) parts)) (sym e) ∙ ap (λ n. rows part ++ flat (drop n parts)) (add-one i))
      ∙ sym (around parts i part k is)

  -- ---- how many stand before an edge

  pub drop_all : (parts : List P) (i : ℕ) → length parts ≤ i → drop i parts ≡ []
  drop_all [] zero h = refl
  drop_all [] (suc i) h = refl
  drop_all (x ∷ xs) zero h = absurd (omega arith)
  drop_all (x ∷ xs) (suc i) h = drop_all xs i (omega arith)

  -- a place is the last, or there is one after it
  or_last : (Q : List P → Type 0) (parts : List P) (i : ℕ) → Q [] → (i + 1 < length parts → Q (drop (suc i) parts)) → Q (drop (suc i) parts)
  or_last Q parts i none more = go (nat_le (length parts) (suc i)) refl
    where
      go : (b : Bool) → nat_le (length parts) (suc i) ≡ b → Q (drop (suc i) parts)
      go true e = let k : length parts ≤ suc i = grind (arith, nat_tests) in subst Q (sym (drop_all parts (suc i) k)) none
      go false e = let k : suc i < length parts = grind (arith, nat_tests) in more (omega arith)

  -- the parts after the chosen one do not stand before the edge
  pub after_choice : (p : Pid → Bool) → IsDownward p → (parts : List P) (i : ℕ) (part : P) → AreRows (rows part ++ flat (drop (suc i) parts)) → IsChoice rows p parts i → part ≡ get_or parts i part → AllByRecursion (λ r. p r.pid ≡ false) (flat (drop (suc i) parts))
  after_choice p down parts i part rest choice is = or_last (λ l. AllByRecursion (λ r. p r.pid ≡ false) (flat l)) parts i tt (λ k. after_right p down (rows part) (flat (drop (suc i) parts)) rest (ap (λ x. all_before p (rows x)) is ∙ choice.next part k))

  pub rank_at : (p : Pid → Bool) → IsDownward p → (parts : List P) (i : ℕ) (part : P) → AreRows (flat parts) → IsChoice rows p parts i → part ≡ get_or parts i part → total_of (flat (take i parts)) + length (spread p (rows part)) ≡ length (spread p (flat parts))
  rank_at p down parts i part h choice is =
      let whole = around parts i part choice.within is in
      let rest : AreRows (rows part ++ flat (drop (suc i) parts)) = rows_right (flat (take i parts)) (rows part ++ flat (drop (suc i) parts)) (subst AreRows whole h) in
      let high = length_after p (flat (drop (suc i) parts)) (after_choice p down parts i part rest choice is) in
      let low = length_before p (flat (take i parts)) choice.front in
      let one = length-spread-append p (flat (take i parts)) (rows part ++ flat (drop (suc i) parts)) in
      let two = length-spread-append p (rows part) (flat (drop (suc i) parts)) in
      let all = ap (λ l. length (spread p l)) whole in
      omega arith

  -- ---- where a pid is at home

  home_of : (pid : Pid) (parts : List P) (i : ℕ) → AreRows (flat parts) → IsChoice rows (below pid) parts i → (part : P) → part ≡ get_or parts i part → IsHome rows pid parts i
  home_of pid parts i h choice part is =
      let whole = around parts i part choice.within is in
      let rest : AreRows (rows part ++ flat (drop (suc i) parts)) = rows_right (flat (take i parts)) (rows part ++ flat (drop (suc i) parts)) (subst AreRows whole h) in
      record {
        within = choice.within;
        front = less_of pid (flat (take i parts)) choice.front;
        later = subst (λ (m : ℕ). AllByRecursion (λ r. pid_cmp pid r.pid ≡ Less) (flat (drop m parts))) (sym (add-one i))
            (or_last (λ l. AllByRecursion (λ r. pid_cmp pid r.pid ≡ Less) (flat l)) parts i tt (λ k. greater_right pid (rows part) (flat (drop (suc i) parts)) rest (ap (λ x. all_before (below pid) (rows x)) is ∙ choice.next part k)));
      }

  pub first_or : (parts : List P) (i : ℕ) → i < length parts → (part : P) × (part ≡ get_or parts i part)
  first_or [] i k = absurd (omega arith)
  first_or (x ∷ xs) zero k = (x, refl)
  first_or (x ∷ xs) (suc i) k = let next = first_or xs i (omega arith) in (next.0, next.1)

  pub home_at : (pid : Pid) (parts : List P) (i : ℕ) → AreRows (flat parts) → IsChoice rows (below pid) parts i → IsHome rows pid parts i
  home_at pid parts i h choice = let first = first_or parts i choice.within in home_of pid parts i h choice first.0 first.1

  module _ (pid : Pid) (parts : List P) (i : ℕ) (home : IsHome rows pid parts i) (part : P) (is : part ≡ get_or parts i part) where
    later : AllByRecursion (λ r. pid_cmp pid r.pid ≡ Less) (flat (drop (suc i) parts))
    later = subst (λ (m : ℕ). AllByRecursion (λ r. pid_cmp pid r.pid ≡ Less) (flat (drop m parts))) (add-one i) home.later

    whole : flat parts ≡ flat (take i parts) ++ (rows part ++ flat (drop (suc i) parts))
    whole = around parts i part home.within is

    pub counts_home : counts_of (flat parts) pid ≡ counts_of (rows part) pid
    counts_home =
        let one = counts-append (flat (take i parts)) (rows part ++ flat (drop (suc i) parts)) pid in
        let two = counts-append (rows part) (flat (drop (suc i) parts)) pid in
        let low = none_less pid (flat (take i parts)) (below_of pid (flat (take i parts)) home.front) in
        let high = none_greater pid (flat (drop (suc i) parts)) later in
        ap (λ l. counts_of l pid) whole ∙ omega arith

    pub total_home : total_of (rows part) ≤ total_of (flat parts)
    total_home =
        let one = total-append (flat (take i parts)) (rows part ++ flat (drop (suc i) parts)) in
        let two = total-append (rows part) (flat (drop (suc i) parts)) in
        let all = ap total_of whole in
        omega arith

    pub added_home : (n : ℕ) → added (flat parts) pid n ≡ flat (take i parts) ++ (added (rows part) pid n ++ flat (drop (suc i) parts))
    added_home n =
        ap (λ l. added l pid n) whole
        ∙ added_after pid n (flat (take i parts)) (rows part ++ flat (drop (suc i) parts)) (below_of pid (flat (take i parts)) home.front)
        ∙ ap (λ l. flat (take i parts) ++ l) (added_before pid n (rows part) (flat (drop (suc i) parts)) later)

    pub taken_home : (n : ℕ) → one_taken (flat parts) pid n ≡ flat (take i parts) ++ (one_taken (rows part) pid n ++ flat (drop (suc i) parts))
    taken_home n =
        ap (λ l. one_taken l pid n) whole
        ∙ taken_after pid n (flat (take i parts)) (rows part ++ flat (drop (suc i) parts)) (below_of pid (flat (take i parts)) home.front)
        ∙ ap (λ l. flat (take i parts) ++ l) (taken_before pid n (rows part) (flat (drop (suc i) parts)) later)

    -- the part written
    pub set_same : (next : P) → rows next ≡ rows part → flat (set parts i next) ≡ flat parts
    set_same next e = around_set parts i next home.within ∙ ap (λ l. flat (take i parts) ++ (l ++ flat (drop (suc i) parts))) e ∙ sym whole

    pub set_added : (n : ℕ) (next : P) → rows next ≡ added (rows part) pid n → flat (set parts i next) ≡ added (flat parts) pid n
    set_added n next e = around_set parts i next home.within ∙ ap (λ l. flat (take i parts) ++ (l ++ flat (drop (suc i) parts))) e ∙ sym (added_home n)

    pub set_taken : (n : ℕ) (next : P) → rows next ≡ one_taken (rows part) pid n → flat (set parts i next) ≡ one_taken (flat parts) pid n
    set_taken n next e = around_set parts i next home.within ∙ ap (λ l. flat (take i parts) ++ (l ++ flat (drop (suc i) parts))) e ∙ sym (taken_home n)

    -- the part removed, once it is empty
    pub remove_taken : (n : ℕ) (next : P) → rows next ≡ one_taken (rows part) pid n → rows next ≡ [] → flat (remove (set parts i next) i) ≡ one_taken (flat parts) pid n
    remove_taken n next e none =
        ap flat (λ j. take-set parts i next j ++ drop-set-lt (suc i) parts i next (omega arith) j)
        ∙ around_removed parts i
        ∙ ap (λ l. flat (take i parts) ++ (l ++ flat (drop (suc i) parts))) (sym none ∙ e)
        ∙ sym (taken_home n)
