-- What the reader of a big integer answers.
use Rattle.std.proofs.Common.{◌≡◌, ℕ, suc, ◌+◌, ◌<◌, ◌^◌, Bool, true, false, cond, ◌⊎◌, inl, inr, ℤ, pos, negsuc}
use Rattle.std.proofs.Common.{FitsSigned, List, [], ◌∷◌, ◌++◌, length, Ok, Err, refl, sym, ap, subst, ◌∙◌, arith}
use Rattle.std.specs.Int.{w64}
use Rattle.std.proofs.lemmas.Bool.{ltb-true, lt-ltb}
use Rattle.std.proofs.lemmas.List.{append-nil}
use Rattle.pg_term.specs.declared.fault.TermFault.{TermFault}
use Rattle.pg_term.specs.declared.fault.TermFault.TheVariants.{IntegerTooLarge}
use Rattle.pg_term.specs.declared.term.Term.TheVariants.{Int}
use Rattle.pg_term_io.specs.Numbers.{big_value}
use Rattle.pg_term_io.specs.Reading.{Read, ◌>>=◌, byte_at, bytes_at, is_i64, i64_of, big_at}
use Rattle.pg_term_io.specs.Spelling.{Item}
use Rattle.pg_term_io.specs.Spelling as s
use Rattle.pg_term_io.specs.Faults.{BreaksItem}
use Rattle.pg_term_io.specs.Faults as f
use Rattle.pg_term_io.proofs.Outcomes.{EachByte, Right, Cut, cut_first, cut_behind, IsByte, IsText}
use Rattle.pg_term_io.proofs.Outcomes.{right_then, right_pure, byte_right, text_right, length_byte}
use Rattle.pg_term_io.proofs.Atoms.{all_fit}

pub is_i64-fits : (z : ℤ) → is_i64 z ≡ true → FitsSigned w64 z
is_i64-fits (pos n) h = record { sfits = ltb-true n (2 ^ 63) h }
is_i64-fits (negsuc n) h = record { sfits = ltb-true n (2 ^ 63) h }

pub fits-is_i64 : (z : ℤ) → FitsSigned w64 z → is_i64 z ≡ true
fits-is_i64 (pos n) h = lt-ltb n (2 ^ 63) h.sfits
fits-is_i64 (negsuc n) h = lt-ltb n (2 ^ 63) h.sfits

i64_ok : (b : Bool) (z v : ℤ) (P : Type 0) → (b ≡ true → P) → cond b (Ok z) (Err IntegerTooLarge) ≡ Ok v → (v ≡ z) × P
i64_ok true z v P h e = (cc, h refl)
i64_ok false z v P h e = absurd cc

i64_err : (b : Bool) (z : ℤ) (d : TermFault) → cond b (Ok z) (Err IntegerTooLarge) ≡ Err d → (d ≡ IntegerTooLarge) × (b ≡ true → ⊥)
i64_err true z d e = absurd cc
i64_err false z d e = (cc, λ h. absurd cc)

-- from the last part to the first: the digits, and then the sign
record IsBig (n sign : ℕ) (z : ℤ) (b : List ℕ) : Type 0 where
  size : length b ≡ n
  bytes : EachByte b
  value : z ≡ big_value sign b
  fits : FitsSigned w64 (big_value sign b)

record TooBig (n sign : ℕ) (e : TermFault) (b : List ℕ) : Type 0 where
  digits : List ℕ
  rest : List ℕ
  whole : b ≡ digits ++ rest
  size : length digits ≡ n
  is : e ≡ IntegerTooLarge
  large : FitsSigned w64 (big_value sign digits) → ⊥

abbrev NoBig : ℕ → ℕ → TermFault → List ℕ → Type 0
NoBig n sign e b = Cut n e b ⊎ TooBig n sign e b

abbrev value_after : ℕ → ℕ → List ℕ → Read ℤ
value_after n sign bytes = bytes_at n bytes >>= λ digits. i64_of (big_value sign digits.0) >>= λ value. Ok (value, digits.1)

value_right : (n sign : ℕ) (bytes : List ℕ) → EachByte bytes → Right (IsBig n sign) (NoBig n sign) bytes (value_after n sign bytes)
value_right n sign bytes fits =
    right_then (IsText n) (Cut n) (λ digits z y. (y ≡ []) × (i64_of (big_value sign digits) ≡ Ok z)) (λ digits e y. i64_of (big_value sign digits) ≡ Err e) (IsBig n sign) (NoBig n sign)
    bytes (bytes_at n bytes) (λ digits. i64_of (big_value sign digits.0) >>= λ value. Ok (value, digits.1))
    (text_right n bytes fits)
    (λ digits rest fit. right_pure (i64_of (big_value sign digits)) rest fit)
    (λ digits z x y h k.
    let same : digits ≡ x ++ y = sym (ap (λ (t : List ℕ). x ++ t) k.0 ∙ append-nil x ∙ h.1) in
    let v = i64_ok (is_i64 (big_value sign digits)) (big_value sign digits) z (FitsSigned w64 (big_value sign digits)) (is_i64-fits (big_value sign digits)) k.1 in
    subst (λ (d : List ℕ). IsBig n sign z d) same (record { size = h.0; bytes = h.2; value = v.0; fits = v.1 }))
    (λ digits e x y h k.
    let v = i64_err (is_i64 (big_value sign digits)) (big_value sign digits) e k in
    inr (record { digits = digits; rest = y; whole = ap (λ (t : List ℕ). t ++ y) h.1; size = h.0; is = v.0; large = λ fit. v.1 (fits-is_i64 (big_value sign digits) fit) }))
    (λ e h. inl h)

record IsSigned (n : ℕ) (z : ℤ) (b : List ℕ) : Type 0 where
  sign : ℕ
  digits : List ℕ
  lt : sign < 256
  is : IsBig n sign z digits
  whole : b ≡ sign ∷ digits

record TooBigSigned (n : ℕ) (e : TermFault) (b : List ℕ) : Type 0 where
  sign : ℕ
  after : List ℕ
  is : TooBig n sign e after
  whole : b ≡ sign ∷ after

abbrev NoSigned : ℕ → TermFault → List ℕ → Type 0
NoSigned n e b = Cut (1 + n) e b ⊎ TooBigSigned n e b

signed_right : (n : ℕ) (bytes : List ℕ) → EachByte bytes → Right (IsSigned n) (NoSigned n) bytes (byte_at bytes >>= λ sign. value_after n sign.0 sign.1)
signed_right n bytes fits =
    right_then IsByte (Cut 1) (IsBig n) (NoBig n) (IsSigned n) (NoSigned n) bytes (byte_at bytes) (λ sign. value_after n sign.0 sign.1)
    (byte_right bytes fits) (λ sign rest fit. value_right n sign rest fit)
    (λ sign z x y h k. record { sign = sign; digits = y; lt = h.0; is = k; whole = ap (λ (t : List ℕ). t ++ y) h.1 })
    (λ sign e x y h k. elim k [
      | inl c ↦ inl (cut_behind n (1 + n) e x y (omega (arith, length_byte sign x h)) c)
      | inr l ↦ inr (record { sign = sign; after = y; is = l; whole = ap (λ (t : List ℕ). t ++ y) h.1 })
    ])
    (λ e h. inl (cut_first 1 (1 + n) e bytes (omega arith) h))

abbrev pub BigBehind : ℕ → ℤ → List ℕ → Type 0
BigBehind room z b = Item (suc room) (Int z) (110 ∷ b)

abbrev pub NoBigBehind : ℕ → TermFault → List ℕ → Type 0
NoBigBehind room e b = BreaksItem (suc room) e (110 ∷ b)

spelled_big : (room n : ℕ) (z : ℤ) (y : List ℕ) → n < 256 → IsSigned n z y → BigBehind room z (n ∷ y)
spelled_big room n z y lt k =
    let b = k.is in
    subst (λ (w : ℕ × ℤ × List ℕ). Item (suc room) (Int w.1) (110 ∷ w.0 ∷ w.2)) (λ i. (b.size i, sym b.value i, sym k.whole i))
    (s.Item.small_big room k.sign k.digits k.lt (omega (arith, b.size, lt)) (all_fit k.digits b.bytes) b.fits)

broken_big : (room n : ℕ) (e : TermFault) (y : List ℕ) → NoSigned n e y → NoBigBehind room e (n ∷ y)
broken_big room n e y (inl c) = subst (λ (d : TermFault). BreaksItem (suc room) d (110 ∷ n ∷ y)) (sym c.0) (f.BreaksItem.big_cut room n y c.1)
broken_big room n e y (inr t) =
    let l = t.is in
    subst (λ (w : ℕ × TermFault × List ℕ). BreaksItem (suc room) w.1 (110 ∷ w.0 ∷ w.2)) (λ i. (l.size i, sym l.is i, sym (t.whole ∙ ap (λ (r : List ℕ). t.sign ∷ r) l.whole) i))
    (f.BreaksItem.too_large room t.sign l.digits l.rest l.large)

pub no_byte : (b : List ℕ) → length b < 1 → [] ≡ b
no_byte [] h = refl
no_byte (x ∷ b) h = absurd (omega arith)

pub big_right : (room : ℕ) (bytes : List ℕ) → EachByte bytes → Right (BigBehind room) (NoBigBehind room) bytes (big_at bytes)
unfolding big_at
big_right room bytes fits =
    right_then IsByte (Cut 1) IsSigned NoSigned (BigBehind room) (NoBigBehind room) bytes (byte_at bytes) (λ n. byte_at n.1 >>= λ sign. value_after n.0 sign.0 sign.1)
    (byte_right bytes fits) (λ n rest fit. signed_right n rest fit)
    (λ n z x y h k. subst (λ (w : List ℕ). BigBehind room z (w ++ y)) (sym h.1) (spelled_big room n z y h.0 k))
    (λ n e x y h k. subst (λ (w : List ℕ). NoBigBehind room e (w ++ y)) (sym h.1) (broken_big room n e y k))
    (λ e h. subst (λ (w : TermFault × List ℕ). NoBigBehind room w.0 w.1) (λ i. (sym h.0 i, no_byte bytes h.1 i)) (f.BreaksItem.big_length_cut room))
