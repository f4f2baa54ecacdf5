-- The digits that are written are those of the number.
use Rattle.std.proofs.Common.{◌≡◌, ℕ, zero, suc, ◌/◌, ◌<◌, ◌≤◌, inl, inr, List, sym, ap, subst, ◌∙◌, arith}
use Rattle.std.specs.List.{AllByRecursion}
use Rattle.std.proofs.lemmas.Bool.{cases_lt}
use Rattle.pg_term_io.specs.Numbers.{little_endian}
use Rattle.pg_term_io.specs.Writing.{digits}
use Rattle.pg_term_io.proofs.WrittenDigits.{no_digits, digits_first}

value_within : (most n : ℕ) → n ≤ most → little_endian (digits n) ≡ n
unfolding little_endian
value_within zero n h = ap (λ (k : ℕ). little_endian (digits k)) (omega arith) ∙ ap little_endian no_digits ∙ omega arith
value_within (suc most) n h =
    elim (cases_lt 0 n) [
      | inl some ↦ omega (arith, ap little_endian (digits_first n some), value_within most (n / 256) (omega arith))
      | inr none ↦ ap (λ (k : ℕ). little_endian (digits k)) (omega arith) ∙ ap little_endian no_digits ∙ omega arith
    ]

pub little_endian-digits : (n : ℕ) → little_endian (digits n) ≡ n
little_endian-digits n = value_within n n (omega arith)

abbrev AreDigits : List ℕ → Type 0
AreDigits ds = AllByRecursion (λ d. d < 256) ds

digits_within : (most n : ℕ) → n ≤ most → AreDigits (digits n)
digits_within zero n h = subst AreDigits (sym (ap digits (omega arith) ∙ no_digits)) tt
digits_within (suc most) n h =
    elim (cases_lt 0 n) [
      | inl some ↦ subst AreDigits (sym (digits_first n some)) (omega arith, digits_within most (n / 256) (omega arith))
      | inr none ↦ subst AreDigits (sym (ap digits (omega arith) ∙ no_digits)) tt
    ]

pub digits_below : (n : ℕ) → AllByRecursion (λ d. d < 256) (digits n)
digits_below n = digits_within n n (omega arith)
