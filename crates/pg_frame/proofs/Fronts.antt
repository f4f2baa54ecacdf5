-- What bytes begin with, and how it stays when more come.
use Rattle.std.proofs.Common.{◌≡◌, ℕ, ◌<◌, ◌≤◌, ◌+◌, Bool, true, false, nat_lt, take, drop, length}
use Rattle.std.proofs.Common.{List, ◌++◌, Some, None, Ok, Err, refl, ap, ◌∙◌, subst, inl, inr, arith}
use Rattle.std.specs.Int.{w32, to_be_bytes, from_be_bytes}
use Rattle.std.proofs.lemmas.Bool.{lt-ltb, le-ltb, ltb-true, ltb-false}
use Rattle.std.proofs.lemmas.List.{append_assoc, length-append, length-drop, take-append-le}
use Rattle.std.proofs.lemmas.List.{drop-append-le, take_at, drop_at, length-take-le}
use Rattle.std.proofs.lemmas.Nat.{from_be_bytes-to_be_bytes_4}
use Rattle.pg_frame.specs.Limits.{max_body}
use Rattle.pg_frame.specs.Frames.{IsBody, IsOpen, IsOverlong, frame, size_at, too_long, front_of, behind}

length-head : (n : ℕ) → length (to_be_bytes w32 n) ≡ 4
length-head n = refl

pub length-frame : (body : List ℕ) → length (frame body) ≡ 4 + length body
unfolding frame
length-frame body = omega (arith, length-append (to_be_bytes w32 (length body)) body, length-head (length body))

size_at-append : (b p : List ℕ) → 4 ≤ length b → size_at (b ++ p) ≡ size_at b
unfolding size_at
size_at-append b p l = ap (from_be_bytes w32) (take-append-le 4 b p l)

size_at-frame : (f r : List ℕ) → IsBody f → size_at (frame f ++ r) ≡ length f
unfolding size_at frame
size_at-frame f r l =
    ap (λ xs. from_be_bytes w32 (take 4 xs)) (append_assoc (to_be_bytes w32 (length f)) f r)
    ∙ (ap (from_be_bytes w32) (take_at (to_be_bytes w32 (length f)) (f ++ r) 4 (length-head (length f)))
    ∙ from_be_bytes-to_be_bytes_4 (length f) (omega arith))

drop-frame : (f r : List ℕ) → drop 4 (frame f ++ r) ≡ f ++ r
unfolding frame
drop-frame f r =
    ap (drop 4) (append_assoc (to_be_bytes w32 (length f)) f r) ∙ drop_at (to_be_bytes w32 (length f)) (f ++ r) 4 (length-head (length f))

-- The cases of a front

at_short : (b : List ℕ) → length b < 4 → front_of b ≡ Ok None
unfolding front_of
at_short b l = rw (lt-ltb (length b) 4 l)

at_overlong : (b : List ℕ) → 4 ≤ length b → max_body < size_at b → front_of b ≡ Err too_long
unfolding front_of
at_overlong b l h = rw (le-ltb (length b) 4 l) (rw (lt-ltb max_body (size_at b) h))

at_cut : (b : List ℕ) → 4 ≤ length b → size_at b ≤ max_body → length b < 4 + size_at b → front_of b ≡ Ok None
unfolding front_of
at_cut b l h d = rw (le-ltb (length b) 4 l) (rw (le-ltb max_body (size_at b) h) (rw (lt-ltb (length b) (4 + size_at b) d)))

at_whole : (b : List ℕ) → 4 ≤ length b → size_at b ≤ max_body → 4 + size_at b ≤ length b → front_of b ≡ Ok (Some (take (size_at b) (drop 4 b)))
unfolding front_of
at_whole b l h d = rw (le-ltb (length b) 4 l) (rw (le-ltb max_body (size_at b) h) (rw (le-ltb (length b) (4 + size_at b) d)))

-- a whole frame at the front
pub record IsFront (b body : List ℕ) : Type 0 where
  pub lawful : size_at b ≤ max_body
  pub fits : 4 + size_at b ≤ length b
  pub size : length body ≡ size_at b
  pub body_is : take (size_at b) (drop 4 b) ≡ body

-- what bytes begin with, and why
pub data Cases (b : List ℕ) : Type 0 where
  whole : (body : List ℕ) → front_of b ≡ Ok (Some body) → IsFront b body → Cases b
  waiting : front_of b ≡ Ok None → IsOpen b → Cases b
  overlong : front_of b ≡ Err too_long → IsOverlong b → Cases b

pub cases_of : (b : List ℕ) → Cases b
cases_of b = go (nat_lt (length b) 4) refl (nat_lt max_body (size_at b)) refl (nat_lt (length b) (4 + size_at b)) refl
  where
    go : (x : Bool) → nat_lt (length b) 4 ≡ x → (y : Bool) → nat_lt max_body (size_at b) ≡ y → (z : Bool) → nat_lt (length b) (4 + size_at b) ≡ z → Cases b
    go true e y f z g = let l : length b < 4 = ltb-true (length b) 4 e in waiting (at_short b l) (inl l)
    go false e true f z g =
        let l : 4 ≤ length b = ltb-false (length b) 4 e in
        let h : max_body < size_at b = ltb-true max_body (size_at b) f in
        overlong (at_overlong b l h) (record { has_length = l; unlawful = h })
    go false e false f true g =
        let l : 4 ≤ length b = ltb-false (length b) 4 e in
        let h : size_at b ≤ max_body = ltb-false max_body (size_at b) f in
        let d : length b < 4 + size_at b = ltb-true (length b) (4 + size_at b) g in
        waiting (at_cut b l h d) (inr (record { has_length = l; lawful = h; short = d }))
    go false e false f false g =
        let l : 4 ≤ length b = ltb-false (length b) 4 e in
        let h : size_at b ≤ max_body = ltb-false max_body (size_at b) f in
        let d : 4 + size_at b ≤ length b = ltb-false (length b) (4 + size_at b) g in
        whole (take (size_at b) (drop 4 b)) (at_whole b l h d)
        (record { lawful = h; fits = d; size = length-take-le (size_at b) (drop 4 b) (omega (arith, length-drop 4 b)); body_is = refl })

pub front_is : (b body : List ℕ) → front_of b ≡ Ok (Some body) → IsFront b body
front_is b body e = go (cases_of b)
  where
    go : Cases b → IsFront b body
    go (whole f z i) = let same : f ≡ body = cc in subst (IsFront b) same i
    go (waiting z o) = absurd (cc)
    go (overlong z o) = absurd (cc)

-- the first frame lies within the bytes
pub front_fits : (b body : List ℕ) → front_of b ≡ Ok (Some body) → 4 + length body ≤ length b
front_fits b body e = let i : IsFront b body = front_is b body e in omega (arith, i.size, i.fits)

-- what lies behind at least one byte is shorter
pub shorter_behind : (b left : List ℕ) (n : ℕ) → left ≡ drop (4 + n) b → 4 + n ≤ length b → length left < length b
shorter_behind b left n e l = omega (arith, ap length e, length-drop (4 + n) b)

pub open_is : (b : List ℕ) → front_of b ≡ Ok None → IsOpen b
open_is b e = go (cases_of b)
  where
    go : Cases b → IsOpen b
    go (whole f z i) = absurd (cc)
    go (waiting z o) = o
    go (overlong z o) = absurd (cc)

pub overlong_is : (b : List ℕ) → front_of b ≡ Err too_long → IsOverlong b
overlong_is b e = go (cases_of b)
  where
    go : Cases b → IsOverlong b
    go (whole f z i) = absurd (cc)
    go (waiting z o) = absurd (cc)
    go (overlong z o) = o

pub front_of-open : (b : List ℕ) → IsOpen b → front_of b ≡ Ok None
front_of-open b (inl l) = at_short b l
front_of-open b (inr o) = at_cut b o.has_length o.lawful o.short

pub front_of-overlong : (b : List ℕ) → IsOverlong b → front_of b ≡ Err too_long
front_of-overlong b o = at_overlong b o.has_length o.unlawful

-- More bytes

pub front_of-append : (b p body : List ℕ) → front_of b ≡ Ok (Some body) → front_of (b ++ p) ≡ Ok (Some body)
front_of-append b p body e =
    let i : IsFront b body = front_is b body e in
    let l : 4 ≤ length b = omega (arith, i.fits) in
    let s : size_at (b ++ p) ≡ size_at b = size_at-append b p l in
    let d : drop 4 (b ++ p) ≡ drop 4 b ++ p = drop-append-le 4 b p l in
    let t : take (size_at (b ++ p)) (drop 4 (b ++ p)) ≡ body =
    ap (λ n. take n (drop 4 (b ++ p))) s ∙ (ap (take (size_at b)) d ∙ (take-append-le (size_at b) (drop 4 b) p (omega (arith, i.fits, length-drop 4 b)) ∙ i.body_is)) in
    at_whole (b ++ p) (omega (arith, length-append b p)) (omega (arith, i.lawful)) (omega (arith, length-append b p, i.fits)) ∙ ap (λ xs. Ok (Some xs)) t

pub behind-append : (b p body : List ℕ) → front_of b ≡ Ok (Some body) → behind body (b ++ p) ≡ behind body b ++ p
behind-append b p body e =
    let i : IsFront b body = front_is b body e in drop-append-le (4 + length body) b p (omega (arith, i.fits, i.size))

pub overlong-append : (b p : List ℕ) → IsOverlong b → IsOverlong (b ++ p)
overlong-append b p o =
    record { has_length = omega (arith, o.has_length, length-append b p); unlawful = omega (arith, o.unlawful, size_at-append b p o.has_length) }

-- A frame at the front

pub front_of-frame : (f r : List ℕ) → IsBody f → front_of (frame f ++ r) ≡ Ok (Some f)
front_of-frame f r l =
    let s : size_at (frame f ++ r) ≡ length f = size_at-frame f r l in
    let n : length (frame f ++ r) ≡ 4 + length f + length r = omega (arith, length-append (frame f) r, length-frame f) in
    let t : take (size_at (frame f ++ r)) (drop 4 (frame f ++ r)) ≡ f =
    ap (λ k. take k (drop 4 (frame f ++ r))) s ∙ (ap (take (length f)) (drop-frame f r) ∙ take_at f r (length f) refl) in
    at_whole (frame f ++ r) (omega arith) (omega arith) (omega arith) ∙ ap (λ xs. Ok (Some xs)) t

pub behind-frame : (f r : List ℕ) → behind f (frame f ++ r) ≡ r
behind-frame f r = drop_at (frame f) r (4 + length f) (length-frame f)
