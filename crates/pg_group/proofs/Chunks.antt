-- The numbers of chunks, where one is looked for or put in.
use Rattle.std.proofs.Common.{◌≡◌, ℕ, suc, ◌+◌, ◌-◌, ◌<◌, ◌≤◌, zero, Bool, true, false, ◌||◌, ◌&&◌, List, [], ◌∷◌, ◌++◌, length, get_or, take, drop, set, map, inl, inr, ◌⊎◌, add-one}
use Rattle.std.proofs.Common.{Result, Ok, Err, refl, sym, ap, subst, ◌∙◌, arith, append_assoc, append-nil}
use Rattle.std.specs.BTreeMap.{is_at}
use Rattle.std.specs.BTreeSet.{insert_key}
use Rattle.std.specs.Cmp.{IsTotalOrder}
use Rattle.std.specs.List.{AllByRecursion, HoldsAt, insert, list_all}
use Rattle.std.specs.List.Sorted.{IsStrictlySortedBy, IsSearchInRange, IsBinarySearchResult}
use Rattle.std.specs.Ordering.{is_eq, is_gt, is_lt, ordering_reverse}
use Rattle.std.specs.Result.{is_ok}
use Rattle.std.specs.declared.cmp.Ordering.{Ordering}
use Rattle.std.specs.declared.cmp.Ordering.TheVariants.{Less, Equal, Greater}
use Rattle.std.proofs.lemmas.List.{take-append-drop, set_split, take_more, take_more_set, drop-set-lt, take_all, drop_all, get_or_default, map-append}
use Rattle.std.proofs.lemmas.List.Concat.{flat_map-append}
use Rattle.std.proofs.lemmas.List.Folds.{list_any-append, list_all-append}
use Rattle.std.proofs.Math.Seq.{drop-cons}
use Rattle.pg_term.specs.declared.pid.Pid.{Pid}
use Rattle.pg_group.specs.declared.number.Number.{Number}
use Rattle.pg_group.specs.declared.chunk.Chunk.{Chunk}
use Rattle.pg_group.specs.contracts.number.NumberOrd.TheImpl.Laws as number_laws
use Rattle.pg_group.specs.Numbers.{number_cmp, has_number, chunk_numbers, all_numbers, IsPlace}
use Rattle.pg_group.proofs.Ordered.{put_after, put_within, put_there, put_at, search_found, search_missed, rises}
use Rattle.pg_group.proofs.Ordered.{none_below, none_after, below_one, sorted_left, sorted_right}

pub number_total : IsTotalOrder number_cmp
number_total = number_laws.total-law

pub none_sorted : IsStrictlySortedBy number_cmp []
unfolding IsStrictlySortedBy
none_sorted = tt

-- ---- one chunk

or_true : (a b : Bool) → b ≡ true → (a || b) ≡ true
or_true true b e = refl
or_true false b e = e

or_neither : (a b : Bool) → b ≡ false → (a || b) ≡ a
or_neither true b e = refl
or_neither false b e = e

module _ (front : List Number) (last k : Number) where
  apart : has_number (front ++ last ∷ []) k ≡ (has_number front k || (is_at (number_cmp k) last || false))
  apart = list_any-append (is_at (number_cmp k)) front (last ∷ [])

  pub has_last : is_eq (number_cmp k last) ≡ true → has_number (front ++ last ∷ []) k ≡ true
  has_last e = apart ∙ or_true (has_number front k) (is_at (number_cmp k) last || false) (ap (λ b. b || false) e)

  pub has_front : has_number front k ≡ true → has_number (front ++ last ∷ []) k ≡ true
  has_front e = apart ∙ ap (λ b. b || (is_at (number_cmp k) last || false)) e

  pub not_last : is_eq (number_cmp k last) ≡ false → has_number (front ++ last ∷ []) k ≡ has_number front k
  not_last e = apart ∙ or_neither (has_number front k) (is_at (number_cmp k) last || false) (ap (λ b. b || false) e)

  pub less_last : (p : Ordering) → is_gt p ≡ false → is_eq p ≡ false → p ≡ Less
  less_last Less e f = refl
  less_last Equal e f = absurd (cc f)
  less_last Greater e f = absurd (cc e)

  module _ (sorted : IsStrictlySortedBy number_cmp (front ++ last ∷ [])) where
    front_sorted : IsStrictlySortedBy number_cmp front
    front_sorted = sorted_left number_total front (last ∷ []) sorted

    pub searched : (r : Result ℕ ℕ) → IsSearchInRange r (length front) → IsBinarySearchResult (λ y. number_cmp y k) front r → is_ok r ≡ has_number front k
    searched (Ok i) bound at = sym (search_found number_total front k i bound at)
    searched (Err i) bound at = let point = at (rises number_total front k front_sorted) in sym (search_missed number_total front k i bound point.0 point.1)

    pub put_found : (i : ℕ) → i < length front → HoldsAt (λ y. number_cmp y k ≡ Equal) front i → front ++ last ∷ [] ≡ insert_key number_cmp (front ++ last ∷ []) k
    put_found i bound at = sym (put_there number_total (front ++ last ∷ []) k sorted (has_front (search_found number_total front k i bound at)))

    pub put_last : is_eq (number_cmp k last) ≡ true → front ++ last ∷ [] ≡ insert_key number_cmp (front ++ last ∷ []) k
    put_last e = sym (put_there number_total (front ++ last ∷ []) k sorted (has_last e))

    pub put_missed : (i : ℕ) → i ≤ length front → IsBinarySearchResult (λ y. number_cmp y k) front (Err i) → is_gt (number_cmp k last) ≡ false → is_eq (number_cmp k last) ≡ false → insert front i k ++ last ∷ [] ≡ insert_key number_cmp (front ++ last ∷ []) k
    put_missed i bound at e f = let point = at (rises number_total front k front_sorted) in put_at number_total front k i bound point.0 point.1 last (less_last (number_cmp k last) e f)

-- the halves of a chunk
pub halved : (front part : List Number) (middle last : Number) (i : ℕ) → take i front ≡ part ++ middle ∷ [] → front ++ last ∷ [] ≡ (part ++ middle ∷ []) ++ (drop i front ++ last ∷ [])
halved front part middle last i e = ap (λ l. l ++ last ∷ []) (sym (take-append-drop i front) ∙ ap (λ l. l ++ drop i front) e) ∙ append_assoc (part ++ middle ∷ []) (drop i front) (last ∷ [])

-- ---- one chunk among others

pub around : (chunks : List Chunk) (i : ℕ) (chunk : Chunk) → i < length chunks → chunk ≡ get_or chunks i chunk → all_numbers chunks ≡ all_numbers (take i chunks) ++ (chunk_numbers chunk ++ all_numbers (drop (suc i) chunks))
around chunks i chunk h is =
    ap all_numbers (sym (take-append-drop i chunks) ∙ ap (λ l. take i chunks ++ l) (drop-cons chunks i chunk h ∙ ap (λ x. x ∷ drop (suc i) chunks) (sym is)))
    ∙ flat_map-append chunk_numbers (take i chunks) (chunk ∷ drop (suc i) chunks)

pub around_set : (chunks : List Chunk) (i : ℕ) (chunk : Chunk) → i < length chunks → all_numbers (set chunks i chunk) ≡ all_numbers (take i chunks) ++ (chunk_numbers chunk ++ all_numbers (drop (suc i) chunks))
around_set chunks i chunk h = ap all_numbers (set_split chunks i chunk h) ∙ flat_map-append chunk_numbers (take i chunks) (chunk ∷ drop (suc i) chunks)

pub set_kept : (chunks : List Chunk) (i : ℕ) (chunk next : Chunk) → i < length chunks → chunk ≡ get_or chunks i chunk → chunk_numbers next ≡ chunk_numbers chunk → all_numbers (set chunks i next) ≡ all_numbers chunks
set_kept chunks i chunk next h is e = around_set chunks i next h ∙ ap (λ l. all_numbers (take i chunks) ++ (l ++ all_numbers (drop (suc i) chunks))) e ∙ sym (around chunks i chunk h is)

one_chunk : (chunk : Chunk) → all_numbers (chunk ∷ []) ≡ chunk_numbers chunk
one_chunk chunk = append-nil (chunk_numbers chunk)

pub divided : (chunks : List Chunk) (i : ℕ) (chunk first later : Chunk) → i < length chunks → chunk ≡ get_or chunks i chunk → chunk_numbers chunk ≡ chunk_numbers first ++ chunk_numbers later → all_numbers (insert (set chunks i first) (i + 1) later) ≡ all_numbers chunks
divided chunks i chunk first later h is e =
    ap all_numbers (λ j. take_more_set chunks i first h j ++ later ∷ drop-set-lt (i + 1) chunks i first (omega arith) j)
    ∙ flat_map-append chunk_numbers (take i chunks ++ first ∷ []) (later ∷ drop (i + 1) chunks)
    ∙ ap (λ l. l ++ all_numbers (later ∷ drop (i + 1) chunks)) (flat_map-append chunk_numbers (take i chunks) (first ∷ []) ∙ ap (λ l. all_numbers (take i chunks) ++ l) (one_chunk first))
    ∙ append_assoc (all_numbers (take i chunks)) (chunk_numbers first) (chunk_numbers later ++ all_numbers (drop (i + 1) chunks))
    ∙ ap (λ l. all_numbers (take i chunks) ++ l) (sym (append_assoc (chunk_numbers first) (chunk_numbers later) (all_numbers (drop (i + 1) chunks))) ∙ ap (λ l. l ++ all_numbers (drop (i + 1) chunks)) (sym e) ∙ ap (λ n. chunk_numbers chunk ++ all_numbers (drop n chunks)) (add-one i))
    ∙ sym (around chunks i chunk h is)

pub taken_more : (chunks : List Chunk) (i : ℕ) (chunk : Chunk) → i < length chunks → chunk ≡ get_or chunks i chunk → all_numbers (take (i + 1) chunks) ≡ all_numbers (take i chunks) ++ chunk_numbers chunk
taken_more chunks i chunk h is =
    ap all_numbers (take_more chunks i chunk h ∙ ap (λ x. take i chunks ++ x ∷ []) (sym is))
    ∙ flat_map-append chunk_numbers (take i chunks) (chunk ∷ [])
    ∙ ap (λ l. all_numbers (take i chunks) ++ l) (one_chunk chunk)

-- a number behind the last chunk, or in one of its own
pub more_last : (chunks : List Chunk) (i : ℕ) (chunk next : Chunk) (k : Number) → i + 1 ≡ length chunks → chunk ≡ get_or chunks i chunk → chunk_numbers next ≡ chunk_numbers chunk ++ k ∷ [] → all_numbers (set chunks i next) ≡ all_numbers chunks ++ k ∷ []
more_last chunks i chunk next k len is e =
    let none : drop (suc i) chunks ≡ [] = drop_all (suc i) chunks (omega arith) in
    around_set chunks i next (omega arith)
    ∙ ap (λ l. all_numbers (take i chunks) ++ (chunk_numbers next ++ all_numbers l)) none
    ∙ ap (λ l. all_numbers (take i chunks) ++ l) (append-nil (chunk_numbers next) ∙ e ∙ ap (λ l. l ++ k ∷ []) (sym (append-nil (chunk_numbers chunk))))
    ∙ sym (append_assoc (all_numbers (take i chunks)) (chunk_numbers chunk ++ []) (k ∷ []))
    ∙ ap (λ l. (all_numbers (take i chunks) ++ (chunk_numbers chunk ++ all_numbers l)) ++ k ∷ []) (sym none)
    ∙ ap (λ l. l ++ k ∷ []) (sym (around chunks i chunk (omega arith) is))

pub more_chunk : (chunks : List Chunk) (chunk : Chunk) (k : Number) → chunk_numbers chunk ≡ k ∷ [] → all_numbers (chunks ++ chunk ∷ []) ≡ all_numbers chunks ++ k ∷ []
more_chunk chunks chunk k e = flat_map-append chunk_numbers chunks (chunk ∷ []) ∙ ap (λ l. all_numbers chunks ++ l) (one_chunk chunk ∙ e)

-- ---- the place of a number

not_lt : (k last : Number) → is_lt (number_cmp last k) ≡ false → is_gt (number_cmp k last) ≡ false
not_lt k last e = go (number_cmp last k) refl e
  where
    go : (p : Ordering) → number_cmp last k ≡ p → is_lt p ≡ false → is_gt (number_cmp k last) ≡ false
    go Less f g = absurd (cc g)
    go Equal f g = ap is_gt (number_total.antisymm k last ∙ ap ordering_reverse f)
    go Greater f g = ap is_gt (number_total.antisymm k last ∙ ap ordering_reverse f)

-- up to the last of a chunk, and after it
at_last : (chunks : List Chunk) (i : ℕ) (chunk : Chunk) → i < length chunks → chunk ≡ get_or chunks i chunk → all_numbers chunks ≡ (all_numbers (take i chunks) ++ chunk.front.items) ++ chunk.last ∷ all_numbers (drop (suc i) chunks)
at_last chunks i chunk h is =
    around chunks i chunk h is
    ∙ ap (λ l. all_numbers (take i chunks) ++ l) (append_assoc chunk.front.items (chunk.last ∷ []) (all_numbers (drop (suc i) chunks)))
    ∙ sym (append_assoc (all_numbers (take i chunks)) chunk.front.items (chunk.last ∷ all_numbers (drop (suc i) chunks)))

up_to_last : (chunks : List Chunk) (i : ℕ) (chunk : Chunk) → i < length chunks → chunk ≡ get_or chunks i chunk → all_numbers (take (suc i) chunks) ≡ (all_numbers (take i chunks) ++ chunk.front.items) ++ chunk.last ∷ []
up_to_last chunks i chunk h is =
    let next : suc i ≡ i + 1 = omega arith in
    ap (λ n. all_numbers (take n chunks)) next
    ∙ taken_more chunks i chunk h is
    ∙ sym (append_assoc (all_numbers (take i chunks)) chunk.front.items (chunk.last ∷ []))

module _ (chunks : List Chunk) (k : Number) (sorted : IsStrictlySortedBy number_cmp (all_numbers chunks)) where
  below_at : (i : ℕ) (chunk : Chunk) → i < length chunks → chunk ≡ get_or chunks i chunk → number_cmp chunk.last k ≡ Less → AllByRecursion (λ x. number_cmp x k ≡ Less) (all_numbers (take (suc i) chunks))
  below_at i chunk h is less = subst (AllByRecursion (λ x. number_cmp x k ≡ Less)) (sym (up_to_last chunks i chunk h is))
      (below_one number_total (all_numbers (take i chunks) ++ chunk.front.items) (all_numbers (drop (suc i) chunks)) chunk.last k (subst (IsStrictlySortedBy number_cmp) (at_last chunks i chunk h is) sorted) less)

  some_or_none : (l : List Chunk) → (l ≡ []) ⊎ Chunk
  some_or_none [] = inl refl
  some_or_none (c ∷ l) = inr c

  all_below : (i : ℕ) → IsPlace chunks k i → AllByRecursion (λ x. number_cmp x k ≡ Less) (all_numbers (take i chunks))
  all_below zero place = tt
  all_below (suc i) place = go (some_or_none chunks)
    where
      go : (chunks ≡ []) ⊎ Chunk → AllByRecursion (λ x. number_cmp x k ≡ Less) (all_numbers (take (suc i) chunks))
      go (inl none) = absurd (let l : length chunks ≡ 0 = ap length none in let w = place.within in omega arith)
      go (inr d) =
          let w = place.within in
          let chunk = get_or chunks i d in
          let is : chunk ≡ get_or chunks i chunk = get_or_default chunks i d (get_or chunks i d) (omega arith) in
          let same : suc i - 1 ≡ i = omega arith in
          let less : number_cmp chunk.last k ≡ Less = ap (λ n. number_cmp (get_or chunks n d).last k) (sym same) ∙ place.before d (omega arith) in
          below_at i chunk (omega arith) is less

  module _ (at : ℕ) (place : IsPlace chunks k at) where
    pub has_none : length chunks ≤ at → has_number (all_numbers chunks) k ≡ false
    has_none h = ap (λ l. has_number (all_numbers l) k) (sym (take_all at chunks h)) ∙ none_below number_total (all_numbers (take at chunks)) k (all_below at place)

    pub put_behind : length chunks ≤ at → all_numbers chunks ++ k ∷ [] ≡ insert_key number_cmp (all_numbers chunks) k
    put_behind h =
        let below : AllByRecursion (λ x. number_cmp x k ≡ Less) (all_numbers chunks) = subst (λ (l : List Chunk). AllByRecursion (λ x. number_cmp x k ≡ Less) (all_numbers l)) (take_all at chunks h) (all_below at place) in
        sym (put_after number_total (all_numbers chunks) [] k below) ∙ ap (λ l. insert_key number_cmp l k) (append-nil (all_numbers chunks))

    module _ (chunk : Chunk) (within : at < length chunks) (is : chunk ≡ get_or chunks at chunk) where
      pub not_above : is_gt (number_cmp k chunk.last) ≡ false
      not_above = not_lt k chunk.last (ap (λ (x : Chunk). is_lt (number_cmp x.last k)) is ∙ place.after chunk within)

      pub chunk_sorted : IsStrictlySortedBy number_cmp (chunk_numbers chunk)
      chunk_sorted = sorted_left number_total (chunk_numbers chunk) (all_numbers (drop (suc at) chunks)) (sorted_right number_total (all_numbers (take at chunks)) (chunk_numbers chunk ++ all_numbers (drop (suc at) chunks)) (subst (IsStrictlySortedBy number_cmp) (around chunks at chunk within is) sorted))

      pub has_there : has_number (all_numbers chunks) k ≡ has_number (chunk_numbers chunk) k
      has_there =
          ap (λ l. has_number l k) (around chunks at chunk within is)
          ∙ list_any-append (is_at (number_cmp k)) (all_numbers (take at chunks)) (chunk_numbers chunk ++ all_numbers (drop (suc at) chunks))
          ∙ ap (λ b. b || has_number (chunk_numbers chunk ++ all_numbers (drop (suc at) chunks)) k) (none_below number_total (all_numbers (take at chunks)) k (all_below at place))
          ∙ list_any-append (is_at (number_cmp k)) (chunk_numbers chunk) (all_numbers (drop (suc at) chunks))
          ∙ or_neither (has_number (chunk_numbers chunk) k) (has_number (all_numbers (drop (suc at) chunks)) k)
          (none_after number_total (all_numbers (take at chunks) ++ chunk.front.items) (all_numbers (drop (suc at) chunks)) chunk.last k (subst (IsStrictlySortedBy number_cmp) (at_last chunks at chunk within is) sorted) not_above)

      pub put_there_too : (next : Chunk) → chunk_numbers next ≡ insert_key number_cmp (chunk_numbers chunk) k → all_numbers (set chunks at next) ≡ insert_key number_cmp (all_numbers chunks) k
      put_there_too next e =
          around_set chunks at next within
          ∙ ap (λ l. all_numbers (take at chunks) ++ (l ++ all_numbers (drop (suc at) chunks))) e
          ∙ ap (λ l. all_numbers (take at chunks) ++ l) (sym (put_within number_total chunk.front.items (all_numbers (drop (suc at) chunks)) chunk.last k not_above))
          ∙ sym (put_after number_total (all_numbers (take at chunks)) (chunk_numbers chunk ++ all_numbers (drop (suc at) chunks)) k (all_below at place))
          ∙ ap (λ l. insert_key number_cmp l k) (sym (around chunks at chunk within is))

-- ---- all numbers of chunks

pub all_of_chunks : (p : Number → Bool) (chunks : List Chunk) → list_all (λ chunk. list_all p (chunk_numbers chunk)) chunks ≡ list_all p (all_numbers chunks)
all_of_chunks p [] = refl
all_of_chunks p (c ∷ chunks) = ap (λ b. list_all p (chunk_numbers c) && b) (all_of_chunks p chunks) ∙ sym (list_all-append p (chunk_numbers c) (all_numbers chunks))

-- the pids of the chunks so far
pub listed_more : (f : Number → Pid) (chunks : List Chunk) (i : ℕ) (chunk : Chunk) (before now all : List Pid) → i < length chunks → chunk ≡ get_or chunks i chunk → now ≡ before ++ map f (chunk_numbers chunk) → before ≡ all ++ map f (all_numbers (take i chunks)) → now ≡ all ++ map f (all_numbers (take (i + 1) chunks))
listed_more f chunks i chunk before now all h is e so =
    e ∙ ap (λ l. l ++ map f (chunk_numbers chunk)) so
    ∙ append_assoc all (map f (all_numbers (take i chunks))) (map f (chunk_numbers chunk))
    ∙ ap (λ l. all ++ l) (sym (map-append f (all_numbers (take i chunks)) (chunk_numbers chunk)) ∙ ap (map f) (sym (taken_more chunks i chunk h is)))
