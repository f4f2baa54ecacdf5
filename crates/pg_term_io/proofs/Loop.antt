-- Reading items one after the other, as a loop does.
use Rattle.std.proofs.Common.{◌≡◌, ℕ, suc, ◌-◌, ◌+◌, ◌<◌, ◌≤◌, List, [], ◌∷◌, ◌++◌}
use Rattle.std.proofs.Common.{Result, Ok, Err, refl, sym, ap, ◌∙◌, append_assoc, arith}
use Rattle.std.proofs.lemmas.List.{append-nil}
use Rattle.pg_term.specs.declared.fault.TermFault.{TermFault}
use Rattle.pg_term.specs.declared.fault.TermFault.TheVariants.{Truncated, BadVersion, UnknownTag, TooDeep}
use Rattle.pg_term.specs.declared.fault.TermFault.TheVariants.{IntegerTooLarge, BadAtom, ImproperList}
use Rattle.pg_term.specs.declared.fault.TermFault.TheVariants.{BadReference, TrailingBytes, OutOfMemory, TooLong}
use Rattle.pg_term.specs.Fault.{Fails}
use Rattle.std.specs.Int.{w32}
use Rattle.pg_term.specs.declared.term.Term.{Term}
use Rattle.pg_term_io.specs.Reading.{Read, ◌>>=◌, number_at, items_at, item_at, tail_at, list_at, readers, with_front}

regroup : {A : Type 0} (front : List A) (x : A) (read : Read (List A)) → with_front front (read >>= λ y. Ok (x ∷ y.0, y.1)) ≡ with_front (front ++ x ∷ []) read
regroup {A} front x (Ok y) = ap (λ (ns : List A). Ok (ns, y.1)) (simp append_assoc)
regroup front x (Err f) = refl

-- where one reading has a fault exactly as the other has it
pub fails_as : {A B : Type 0} (e : TermFault) (a : Result A TermFault) (b : Result B TermFault) → Fails e a → (a ≡ Err e → b ≡ Err e) → Fails e b
fails_as OutOfMemory a b h k = tt
fails_as Truncated a b h k = k h
fails_as BadVersion a b h k = k h
fails_as UnknownTag a b h k = k h
fails_as TooDeep a b h k = k h
fails_as IntegerTooLarge a b h k = k h
fails_as BadAtom a b h k = k h
fails_as ImproperList a b h k = k h
fails_as BadReference a b h k = k h
fails_as TrailingBytes a b h k = k h
fails_as TooLong a b h k = k h

-- a fault of a step is the fault of what goes on from it
pub fails_then : {A B C : Type 0} (e : TermFault) (read : Result A TermFault) (f : A → Result B TermFault) (g : B → Result C TermFault) (total : Result C TermFault) → Fails e read → total ≡ ((read >>= f) >>= g) → Fails e total
fails_then e read f g total h is = fails_as e read total h (λ k. is ∙ ap (λ r. (r >>= f) >>= g) k)

module _ {A : Type 0} (read : List ℕ → Read A) where
  pub goes_on : (front : List A) (count i : ℕ) (bytes : List ℕ) (x : A) (after : List ℕ) (total : Read (List A)) → i < count → read bytes ≡ Ok (x, after)
      → with_front front (items_at read (count - i) bytes) ≡ total → with_front (front ++ x ∷ []) (items_at read (count - (i + 1)) after) ≡ total
  unfolding items_at
  goes_on front count i bytes x after total lt h so_far =
      let k : count - i ≡ suc (count - (i + 1)) = omega arith in
      let one : with_front front (items_at read (count - i) bytes) ≡ with_front (front ++ x ∷ []) (items_at read (count - (i + 1)) after) = rw (k, h) (regroup front x (items_at read (count - (i + 1)) after)) in
      sym one ∙ so_far

module _ {A : Type 0} (read : List ℕ → Read A) (front : List A) (count i : ℕ) (bytes : List ℕ) (total : Read (List A)) where
  pub ends : (e : TermFault) → i < count → Fails e (read bytes) → with_front front (items_at read (count - i) bytes) ≡ total → Fails e total
  unfolding items_at
  ends e lt h so_far =
      let k : count - i ≡ suc (count - (i + 1)) = omega arith in
      fails_then e (read bytes) (λ first. items_at read (count - (i + 1)) first.1 >>= λ others. Ok (first.0 ∷ others.0, others.1)) (λ x. Ok (front ++ x.0, x.1)) total h (sym so_far ∙ ap (λ (n : ℕ). with_front front (items_at read n bytes)) k)

  pub is_done : count ≤ i → with_front front (items_at read (count - i) bytes) ≡ total → total ≡ Ok (front, bytes)
  unfolding items_at
  is_done le so_far =
      let k : count - i ≡ 0 = omega arith in
      let one : with_front front (items_at read (count - i) bytes) ≡ Ok (front, bytes) = rw k (ap (λ (ns : List A). Ok (ns, bytes)) (append-nil front)) in
      sym so_far ∙ one

-- ---- the elements of a list, and those of its tail

front_fault : {A : Type 0} (front : List A) (read : Read (List A)) (e : TermFault) (f : List A × List ℕ → Read (List A)) → with_front front read ≡ Err e → with_front front (read >>= f) ≡ Err e
front_fault front (Ok x) e f h = absurd cc
front_fault front (Err d) e f h = h

pub list_count_fails : (e : TermFault) (front : List Term) (room : ℕ) (bytes : List ℕ) → Fails e (number_at w32 bytes) → Fails e (with_front front (list_at (readers room) bytes))
unfolding list_at
list_count_fails e front room bytes h = fails_then e (number_at w32 bytes) (λ n. items_at (item_at room) n.0 n.1 >>= λ items. tail_at room items.1 >>= λ tail. Ok (items.0 ++ tail.0, tail.1)) (λ x. Ok (front ++ x.0, x.1)) (with_front front (list_at (readers room) bytes)) h refl

pub list_items_fail : (e : TermFault) (front : List Term) (room : ℕ) (bytes : List ℕ) (count : ℕ) (rest : List ℕ) → number_at w32 bytes ≡ Ok (count, rest)
    → Fails e (with_front front (items_at (item_at room) count rest)) → Fails e (with_front front (list_at (readers room) bytes))
unfolding list_at
list_items_fail e front room bytes count rest n h =
    let next : List Term × List ℕ → Read (List Term) = λ items. tail_at room items.1 >>= λ tail. Ok (items.0 ++ tail.0, tail.1) in
    let whole : with_front front (list_at (readers room) bytes) ≡ with_front front (items_at (item_at room) count rest >>= next) = ap (λ (r : Read ℕ). with_front front (r >>= λ n. items_at (item_at room) n.0 n.1 >>= next)) n in
    fails_as e (with_front front (items_at (item_at room) count rest)) (with_front front (list_at (readers room) bytes)) h
    (λ k. whole ∙ front_fault front (items_at (item_at room) count rest) e next k)

front_tail : {A : Type 0} (front before : List A) (read : Read (List A)) (rest : List ℕ) (tail : List ℕ → Read (List A)) → with_front front read ≡ Ok (before, rest)
    → with_front front (read >>= λ items. tail items.1 >>= λ more. Ok (items.0 ++ more.0, more.1)) ≡ with_front before (tail rest)
front_tail front before (Err e) rest tail h = absurd cc
front_tail {A} front before (Ok x) rest tail h =
    let same : (front ++ x.0, x.1) ≡ (before, rest) = cc in
    appended (tail x.1) ∙ ap (λ (p : List A × List ℕ). with_front p.0 (tail p.1)) same
  where
    appended : (read : Read (List A)) → with_front front (read >>= λ more. Ok (x.0 ++ more.0, more.1)) ≡ with_front (front ++ x.0) read
    appended (Ok y) = ap (λ (ts : List A). Ok (ts, y.1)) (sym (append_assoc front x.0 y.0))
    appended (Err e) = refl

pub list_goes_on : (front before : List Term) (room : ℕ) (bytes : List ℕ) (count : ℕ) (rest after : List ℕ) → number_at w32 bytes ≡ Ok (count, rest) → with_front front (items_at (item_at room) count rest) ≡ Ok (before, after)
    → with_front front (list_at (readers room) bytes) ≡ with_front before (tail_at room after)
unfolding list_at
list_goes_on front before room bytes count rest after n h =
    ap (λ (r : Read ℕ). with_front front (r >>= λ n. items_at (item_at room) n.0 n.1 >>= λ items. tail_at room items.1 >>= λ tail. Ok (items.0 ++ tail.0, tail.1))) n
    ∙ front_tail front before (items_at (item_at room) count rest) after (tail_at room) h
