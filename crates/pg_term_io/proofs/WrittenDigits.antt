-- The digits of a number, one by one.
use Rattle.std.proofs.Common.{◌≡◌, ℕ, ◌+◌, ◌/◌, ◌%◌, ◌<◌, ◌≤◌, ◌^◌, List, sym}
use Rattle.std.proofs.Common.{append_assoc, [], ◌∷◌, ◌++◌, length, refl, ap, ◌∙◌, arith}
use Rattle.std.specs.Prelude.{reverse}
use Rattle.std.specs.Int.Digits.{digits_of}
use Rattle.std.proofs.lemmas.Int.Digits.{digits_of_step, length-digits_of-le}
use Rattle.std.proofs.lemmas.List.{append-nil, reverse-append, length-reverse}
use Rattle.pg_term_io.specs.Writing.{digits}

pub no_digits : digits 0 ≡ []
unfolding digits
no_digits = refl

-- the lowest digit stands first
pub digits_first : (n : ℕ) → 0 < n → digits n ≡ n % 256 ∷ digits (n / 256)
unfolding digits
digits_first n some = ap reverse (digits_of_step 256 n (omega arith) some) ∙ reverse-append (digits_of 256 (n / 256)) (n % 256 ∷ [])

pub digits_count : (n : ℕ) → 0 < n → length (digits n) ≡ length (digits (n / 256)) + 1
digits_count n some = omega (arith, ap length (digits_first n some))

-- eight digits hold 64 bits
pub few_digits : (n : ℕ) → n < 2 ^ 64 → length (digits n) ≤ 8
unfolding digits
few_digits n small = rw length-reverse (length-digits_of-le 256 8 n (omega arith) small)

-- one digit more is written
pub digits_step : (bytes more whole : List ℕ) (n : ℕ) → 0 < n → more ≡ bytes ++ n % 256 ∷ [] → bytes ++ digits n ≡ whole → more ++ digits (n / 256) ≡ whole
digits_step bytes more whole n some e known =
    ap (λ (b : List ℕ). b ++ digits (n / 256)) e ∙ append_assoc bytes (n % 256 ∷ []) (digits (n / 256)) ∙ ap (λ (b : List ℕ). bytes ++ b) (sym (digits_first n some)) ∙ known

-- no digit is left
pub digits_end : (bytes whole : List ℕ) (n : ℕ) → n ≤ 0 → bytes ++ digits n ≡ whole → bytes ≡ whole
digits_end bytes whole n none known =
    let e : digits n ≡ [] = ap digits (omega arith) ∙ no_digits in
    sym (append-nil bytes) ∙ ap (λ (b : List ℕ). bytes ++ b) (sym e) ∙ known

-- how many digits there are
pub ruleset counting = (digits_count, few_digits, no_digits)
