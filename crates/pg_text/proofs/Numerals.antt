-- Digits and the numbers that they write.
use Rattle.std.proofs.Common.{◌≡◌, ℕ, suc, ◌+◌, ◌*◌, ◌<◌, ◌≤◌, Bool, true, false, not, ◌&&◌, ◌||◌, ◌==◌, nat_le, cond, List, []}
use Rattle.std.proofs.Common.{◌∷◌, take, drop, refl, sym, ap, ◌∙◌, subst, arith, Some, None}
use Rattle.std.proofs.lemmas.Bool.Decides.{nat_tests}
use Rattle.std.proofs.lemmas.List.Folds.{length-prefix_len}
use Rattle.std.specs.Char.{is_ascii_digit, digit_value}
use Rattle.std.specs.List.{prefix_len}
use Rattle.std.specs.Str.Parse.{AllDigits, digits_value_after}
use Rattle.pg_text.specs.Reading.{Read, numeral_at, numeral_of, is_plain_number}

pub value_of_digit : (c : ℕ) → is_ascii_digit c ≡ true → digit_value c < 10
value_of_digit c e = grind (arith, nat_tests)

-- the digits at the front are digits
pub digits_in_front : (xs : List ℕ) → AllDigits 10 (take (prefix_len is_ascii_digit xs) xs)
digits_in_front [] = tt
digits_in_front (x ∷ xs) = step (is_ascii_digit x) refl (digits_in_front xs)
  where
    step : (b : Bool) → is_ascii_digit x ≡ b → AllDigits 10 (take (prefix_len is_ascii_digit xs) xs) → AllDigits 10 (take (cond b (1 + prefix_len is_ascii_digit xs) 0) (x ∷ xs))
    step true e h = let n : suc (prefix_len is_ascii_digit xs) ≡ 1 + prefix_len is_ascii_digit xs = omega arith in subst (λ k. AllDigits 10 (take k (x ∷ xs))) n (value_of_digit x e, h)
    step false e h = tt

-- more digits make a number no smaller
grows : (n : ℕ) (ds : List ℕ) → n ≤ digits_value_after 10 n ds
grows n [] = omega arith
grows n (d ∷ ds) = omega (arith, grows (n * 10 + digit_value d) ds)

-- how many digits are at the front
abbrev pub digit_count : List ℕ → ℕ
digit_count text = prefix_len is_ascii_digit text

one_digit_more : (c : ℕ) (cs : List ℕ) → is_ascii_digit c ≡ true → digit_count (c ∷ cs) ≡ suc (digit_count cs)
one_digit_more c cs e = ap (λ b. cond b (1 + digit_count cs) 0) e ∙ omega arith

-- the number that these digits make of one that was read, where it is not too large
abbrev value_with : ℕ → ℕ → List ℕ → List ℕ → Read ℕ
value_with most n digits rest = cond (nat_le (digits_value_after 10 n digits) most) (Some (digits_value_after 10 n digits, rest)) None

-- the number that the digits at the front make of it
abbrev pub value_at : ℕ → ℕ → List ℕ → Read ℕ
value_at most n text = value_with most n (take (digit_count text) text) (drop (digit_count text) text)

pub digit_turn : (most n c : ℕ) (cs : List ℕ) → is_ascii_digit c ≡ true → value_at most n (c ∷ cs) ≡ value_at most (n * 10 + digit_value c) cs
digit_turn most n c cs e = ap (λ k. value_with most n (take k (c ∷ cs)) (drop k (c ∷ cs))) (one_digit_more c cs e)

pub value_over : (most n : ℕ) (text : List ℕ) → most < n → value_at most n text ≡ None
value_over most n text over =
    let m = digits_value_after 10 n (take (digit_count text) text) in
    let large : n ≤ m = grows n (take (digit_count text) text) in
    ap (λ b. cond b (Some (m, drop (digit_count text) text)) None) (too_large m most (omega arith))
  where
    too_large : (a b : ℕ) → b < a → nat_le a b ≡ false
    too_large a b lt = grind (arith, nat_tests)

pub digits_end : (most n : ℕ) (text : List ℕ) → digit_count text ≡ 0 → n ≤ most → value_at most n text ≡ Some (n, text)
digits_end most n text e few = ap (λ k. value_with most n (take k text) (drop k text)) e ∙ ap (λ b. cond b (Some (n, text)) None) (small n most few)
  where
    small : (a b : ℕ) → a ≤ b → nat_le a b ≡ true
    small a b le = grind (arith, nat_tests)

-- a zero that other digits follow
abbrev pub zero_leads : ℕ → List ℕ → Bool
zero_leads c rest = (c == 48) && not (digit_count rest == 0)

numeral_with : (most c : ℕ) (cs : List ℕ) → is_ascii_digit c ≡ true → numeral_at most (c ∷ cs) ≡ numeral_of most (c ∷ take (digit_count cs) cs) (drop (digit_count cs) cs)
unfolding numeral_at
numeral_with most c cs e = ap (λ k. numeral_of most (take k (c ∷ cs)) (drop k (c ∷ cs))) (one_digit_more c cs e)

plain_where : (c : ℕ) (cs : List ℕ) → is_plain_number (c ∷ take (digit_count cs) cs) ≡ (not (c == 48) || (digit_count cs == 0))
plain_where c cs = ap (λ n. not (c == 48) || (n == 0)) (length-prefix_len is_ascii_digit cs)

either : (a b : Bool) → (a && not b) ≡ false → (not a || b) ≡ true
either false b e = refl
either true true e = refl
either true false e = sym e

neither : (a b : Bool) → (a && not b) ≡ true → (not a || b) ≡ false
neither false b e = sym e
neither true true e = sym e
neither true false e = refl

-- a digit at the front, and no zero before others
pub numeral_turn : (most c : ℕ) (cs : List ℕ) → is_ascii_digit c ≡ true → zero_leads c cs ≡ false → numeral_at most (c ∷ cs) ≡ value_at most (0 * 10 + digit_value c) cs
numeral_turn most c cs e plain =
    let m = digits_value_after 10 (0 * 10 + digit_value c) (take (digit_count cs) cs) in
    numeral_with most c cs e ∙ ap (λ b. cond (b && nat_le m most) (Some (m, drop (digit_count cs) cs)) None) (plain_where c cs ∙ either (c == 48) (digit_count cs == 0) plain)

pub numeral_led : (most c : ℕ) (cs : List ℕ) → is_ascii_digit c ≡ true → zero_leads c cs ≡ true → numeral_at most (c ∷ cs) ≡ None
numeral_led most c cs e led =
    let m = digits_value_after 10 (0 * 10 + digit_value c) (take (digit_count cs) cs) in
    numeral_with most c cs e ∙ ap (λ b. cond (b && nat_le m most) (Some (m, drop (digit_count cs) cs)) None) (plain_where c cs ∙ neither (c == 48) (digit_count cs == 0) led)

pub numeral_none : (most : ℕ) (text : List ℕ) → digit_count text ≡ 0 → numeral_at most text ≡ None
unfolding numeral_at
numeral_none most text e = ap (λ k. numeral_of most (take k text) (drop k text)) e
