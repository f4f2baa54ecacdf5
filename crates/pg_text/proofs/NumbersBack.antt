-- What is written of a number is read as that number.
use Rattle.std.proofs.Common.{◌≡◌, ℕ, zero, suc, ◌+◌, ◌-◌, ◌^◌, ◌<◌, ◌≤◌, Bool, true, false, not}
use Rattle.std.proofs.Common.{◌&&◌, ◌||◌, ◌==◌, cond, List, [], ◌∷◌, ◌++◌, length, get_or, take}
use Rattle.std.proofs.Common.{drop, refl, sym, ap, ◌∙◌, subst, arith, Some, None, ℤ, pos, negsuc}
use Rattle.std.proofs.lemmas.Bool.Decides.{nat_tests}
use Rattle.std.proofs.lemmas.Fmt.{decimal_is_IsNumeral, first_decimal, decimal_digit, decimal_nonempty}
use Rattle.std.proofs.lemmas.List.{take-append-le, take_all}
use Rattle.std.proofs.lemmas.List.Folds.{prefix_len-append}
use Rattle.std.specs.Prelude.{decimal, nat_le, FitsSigned}
use Rattle.std.specs.Int.{w64}
use Rattle.std.specs.Char.{is_ascii_digit, digit_value}
use Rattle.std.specs.Fmt.{signed_decimal}
use Rattle.std.specs.List.{prefix_len}
use Rattle.std.specs.Str.Parse.{AllDigits, digits_value}
use borrow.Author.Tests.{eq-eqb, ne_eqb, le-leb}
use Rattle.pg_text.specs.Reading.{numeral_at, numeral_of, is_plain_number, integer_at}
use Rattle.pg_text.specs.Reading.{begins, then_read, below_zero, begins_number}
use Rattle.pg_text.specs.Writing.{is_word_byte}

-- a list that no digit begins
abbrev pub NoDigit : List ℕ → Type 0
NoDigit text = prefix_len is_ascii_digit text ≡ 0

is_digit_of : (c : ℕ) → digit_value c < 10 → is_ascii_digit c ≡ true
is_digit_of c lt = grind (arith, nat_tests)

all_digits_pass : (ds : List ℕ) → AllDigits 10 ds → prefix_len is_ascii_digit ds ≡ length ds
all_digits_pass [] all = refl
all_digits_pass (d ∷ ds) all = ap (λ b. cond b (1 + prefix_len is_ascii_digit ds) 0) (is_digit_of d all.0) ∙ omega (arith, all_digits_pass ds all.1)

pub digits_stop : (ds rest : List ℕ) → AllDigits 10 ds → NoDigit rest → prefix_len is_ascii_digit (ds ++ rest) ≡ length ds
digits_stop ds rest all none =
    prefix_len-append is_ascii_digit ds rest ∙ ap (λ b. cond b (length ds + prefix_len is_ascii_digit rest) (prefix_len is_ascii_digit ds)) (eq-eqb _ _ (all_digits_pass ds all)) ∙ omega (arith, none)

pub take_front : (xs ys : List ℕ) → take (length xs) (xs ++ ys) ≡ xs
take_front xs ys = take-append-le (length xs) xs ys (omega arith) ∙ take_all (length xs) xs (omega arith)

pub drop_front : (xs ys : List ℕ) → drop (length xs) (xs ++ ys) ≡ ys
drop_front [] ys = refl
drop_front (x ∷ xs) ys = drop_front xs ys

plain_first : (ds : List ℕ) → 0 < length ds → 48 < get_or ds 0 0 → is_plain_number ds ≡ true
plain_first [] some first = absurd (omega arith)
plain_first (d ∷ ds) some first = ap (λ b. not b || (length ds == 0)) (ne_eqb d 48 (λ e. omega arith))

plain_decimal : (n : ℕ) → n < 2 ^ 64 → is_plain_number (decimal n) ≡ true
plain_decimal zero small = ap is_plain_number (decimal_digit 0 (omega arith))
plain_decimal (suc m) small = plain_first (decimal (suc m)) (decimal_nonempty (suc m) small) (first_decimal (suc m) (omega arith) small)

-- no character but a digit begins digits
digits_begin : (c : ℕ) (ds rest : List ℕ) → 10 ≤ digit_value c → 0 < length ds → AllDigits 10 ds → begins c (ds ++ rest) ≡ false
digits_begin c [] rest other some all = absurd (omega arith)
digits_begin c (d ∷ ds) rest other some all = ne_eqb d c (λ e. let h = subst (λ x. digit_value x < 10) e all.0 in absurd (omega arith))

pub decimal_begins : (c n : ℕ) (rest : List ℕ) → 10 ≤ digit_value c → n < 2 ^ 64 → begins c (decimal n ++ rest) ≡ false
decimal_begins c n rest other small = digits_begin c (decimal n) rest other (decimal_nonempty n small) ((decimal_is_IsNumeral n small).0.1)

pub numeral_back : (most n : ℕ) (rest : List ℕ) → n ≤ most → most < 2 ^ 64 → NoDigit rest → numeral_at most (decimal n ++ rest) ≡ Some (n, rest)
unfolding numeral_at
numeral_back most n rest fits small none =
    let numeral = decimal_is_IsNumeral n (omega arith) in
    let len : prefix_len is_ascii_digit (decimal n ++ rest) ≡ length (decimal n) = digits_stop (decimal n) rest numeral.0.1 none in
    ap (λ k. numeral_of most (take k (decimal n ++ rest)) (drop k (decimal n ++ rest))) len
    ∙ ap (λ xs. numeral_of most xs (drop (length (decimal n)) (decimal n ++ rest))) (take_front (decimal n) rest)
    ∙ ap (numeral_of most (decimal n)) (drop_front (decimal n) rest)
    ∙ ap (λ b. cond (b && nat_le (digits_value 10 (decimal n)) most) (Some (digits_value 10 (decimal n), rest)) None) (plain_decimal n (omega arith))
    ∙ ap (λ v. cond (nat_le v most) (Some (v, rest)) None) numeral.1
    ∙ ap (λ b. cond b (Some (n, rest)) None) (le-leb n most fits)

pub integer_back_above : (n : ℕ) (rest : List ℕ) → n ≤ 9223372036854775807 → NoDigit rest → integer_at (decimal n ++ rest) ≡ Some (pos n, rest)
unfolding integer_at
integer_back_above n rest fits none =
    ap (λ b. cond b (then_read (numeral_at 9223372036854775808 (drop 1 (decimal n ++ rest))) below_zero) (then_read (numeral_at 9223372036854775807 (decimal n ++ rest)) (λ m more. Some (pos m, more))))
    (decimal_begins 45 n rest (omega arith) (omega arith))
    ∙ ap (λ r. then_read r (λ m more. Some (pos m, more))) (numeral_back 9223372036854775807 n rest fits (omega arith) none)

pub integer_back_below : (n : ℕ) (rest : List ℕ) → n < 9223372036854775808 → NoDigit rest → integer_at (45 ∷ decimal (suc n) ++ rest) ≡ Some (negsuc n, rest)
unfolding integer_at
integer_back_below n rest fits none =
    ap (λ r. then_read r below_zero) (numeral_back 9223372036854775808 (suc n) rest (omega arith) (omega arith) none)
    ∙ ap (λ b. cond b None (Some (negsuc (suc n - 1), rest))) (ne_eqb (suc n) 0 (λ e. omega arith))
    ∙ ap (λ k. Some (negsuc k, rest)) (omega arith)

pub integer_back : (n : ℤ) (rest : List ℕ) → FitsSigned w64 n → NoDigit rest → integer_at (signed_decimal n ++ rest) ≡ Some (n, rest)
integer_back (pos n) rest fits none = integer_back_above n rest (omega (arith, fits)) none
integer_back (negsuc n) rest fits none = integer_back_below n rest (omega (arith, fits)) none

digits_are_number : (ds rest : List ℕ) → 0 < length ds → AllDigits 10 ds → begins_number (ds ++ rest) ≡ true
digits_are_number [] rest some all = absurd (omega arith)
digits_are_number (d ∷ ds) rest some all = digit (is_digit_of d all.0)
  where
    digit : is_ascii_digit d ≡ true → ((d == 45) || is_ascii_digit d) ≡ true
    digit e = grind (arith, nat_tests)

pub integer_is_number : (n : ℤ) (rest : List ℕ) → FitsSigned w64 n → begins_number (signed_decimal n ++ rest) ≡ true
integer_is_number (pos n) rest fits = let small : n < 2 ^ 64 = omega (arith, fits) in digits_are_number (decimal n) rest (decimal_nonempty n small) ((decimal_is_IsNumeral n small).0.1)
integer_is_number (negsuc n) rest fits = refl

pub integer_begins : (c : ℕ) (n : ℤ) (rest : List ℕ) → 10 ≤ digit_value c → (45 == c) ≡ false → FitsSigned w64 n → begins c (signed_decimal n ++ rest) ≡ false
integer_begins c (pos n) rest other minus fits = decimal_begins c n rest other (omega (arith, fits))
integer_begins c (negsuc n) rest other minus fits = minus

pub integer_some : (n : ℤ) → FitsSigned w64 n → 1 ≤ length (signed_decimal n)
integer_some (pos n) fits = omega (arith, decimal_nonempty n (omega (arith, fits)))
integer_some (negsuc n) fits = omega arith

-- what no character of a word begins no digit begins
pub no_digit : (text : List ℕ) → prefix_len is_word_byte text ≡ 0 → NoDigit text
no_digit [] e = refl
no_digit (c ∷ text) e = step (is_ascii_digit c) refl
  where
    word : is_ascii_digit c ≡ true → is_word_byte c ≡ true
    word d = grind (arith, nat_tests)

    step : (b : Bool) → is_ascii_digit c ≡ b → cond b (1 + prefix_len is_ascii_digit text) 0 ≡ 0
    step true d = let h : 1 + prefix_len is_word_byte text ≡ 0 = ap (λ b. cond b (1 + prefix_len is_word_byte text) 0) (sym (word d)) ∙ e in absurd (omega arith)
    step false d = refl
