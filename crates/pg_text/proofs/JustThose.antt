-- What is read of numbers and atoms is what spells them.
use Rattle.std.proofs.Common.{◌≡◌, ℕ, zero, suc, ◌-◌, ◌^◌, ◌<◌, Bool, true, false, ◌&&◌, cond, List, [], ◌∷◌, ◌++◌}
use Rattle.std.proofs.Common.{length, get_or, take, drop, refl, sym, ap, ◌∙◌, arith, Some, None, Option, ℤ, pos, negsuc}
use Rattle.std.proofs.lemmas.Bool.Decides.{nat_tests}
use Rattle.std.proofs.lemmas.Fmt.{decimal-digits_value}
use Rattle.std.proofs.lemmas.Str.Parse.{IsNumeralModel, numerals_by_value, tells_digits}
use Rattle.std.proofs.lemmas.List.{take-append-drop}
use Rattle.std.specs.Prelude.{decimal, nat_le}
use Rattle.std.specs.Char.{is_ascii_digit}
use Rattle.std.specs.Fmt.{signed_decimal}
use Rattle.std.specs.List.{prefix_len}
use Rattle.std.specs.Str.Parse.{AllDigits, digits_value}
use borrow.Author.Tests.{ne_eqb}
use Rattle.pg_text.proofs.AtomsBack.{both}
use Rattle.pg_text.proofs.Numerals.{digits_in_front}
use Rattle.pg_text.specs.Reading.{Read, then_read, begins, behind, numeral_at, is_plain_number, integer_at, below_zero}

pub read_inv : {A B : Type 0} (r : Read A) (next : A → List ℕ → Read B) (y : B × List ℕ) → then_read r next ≡ Some y → (x : A × List ℕ) × (r ≡ Some x) × (next x.0 x.1 ≡ Some y)
read_inv None next y e = absurd (cc)
read_inv (Some x) next y e = (x, refl, e)

pub cond_inv : {A : Type 0} (b : Bool) (x : Option A) (y : A) → cond b x None ≡ Some y → (b ≡ true) × (x ≡ Some y)
cond_inv true x y e = (refl, e)
cond_inv false x y e = absurd (cc)

pub some_inv : {A : Type 0} (x y : A) → Some x ≡ Some y → x ≡ y
some_inv x y e = cc

pub begins_inv : (c : ℕ) (text : List ℕ) → begins c text ≡ true → text ≡ c ∷ drop 1 text
begins_inv c [] e = absurd (cc)
begins_inv c (d ∷ text) e = let same : d ≡ c = grind (arith, nat_tests) in ap (λ x. x ∷ text) same

pub behind_inv : {A : Type 0} (c : ℕ) (text : List ℕ) (next : List ℕ → Read A) (y : A × List ℕ) → behind c text next ≡ Some y → (text ≡ c ∷ drop 1 text) × (next (drop 1 text) ≡ Some y)
behind_inv c text next y e = let h = cond_inv (begins c text) (next (drop 1 text)) y e in (begins_inv c text h.0, h.1)

-- ---- numbers

model : IsNumeralModel (AllDigits 10) (digits_value 10)
model = numerals_by_value (AllDigits 10) tells_digits

plain_some : (ds : List ℕ) → is_plain_number ds ≡ true → 0 < length ds
plain_some [] e = absurd (cc)
plain_some (d ∷ ds) e = omega arith

plain_lead : (ds : List ℕ) → is_plain_number ds ≡ true → get_or ds 0 0 ≡ 48 → length ds ≡ 1
plain_lead [] e lead = absurd (cc)
plain_lead (d ∷ ds) e lead = grind (arith, nat_tests)

pub numeral_just : (most : ℕ) (text : List ℕ) (y : ℕ × List ℕ) → most < 2 ^ 64 → numeral_at most text ≡ Some y → text ≡ decimal y.0 ++ y.1
unfolding numeral_at
numeral_just most text y small e =
    let k = prefix_len is_ascii_digit text in
    let x : ℕ × List ℕ = (digits_value 10 (take k text), drop k text) in
    let h = cond_inv (is_plain_number (take k text) && nat_le (digits_value 10 (take k text)) most) (Some x) y e in
    let t = both (is_plain_number (take k text)) (nat_le (digits_value 10 (take k text)) most) h.0 in
    let s = some_inv x y h.1 in
    let under : nat_le (digits_value 10 (take k text)) most ≡ true = t.1 in
    let fits : digits_value 10 (take k text) < 2 ^ 64 = grind (arith, nat_tests) in
    let text_is : decimal (digits_value 10 (take k text)) ≡ take k text = decimal-digits_value model (take k text) (digits_in_front text) (plain_some _ t.0) (plain_lead _ t.0) fits in
    sym (take-append-drop k text) ∙ ap (λ z. z ++ drop k text) (sym text_is) ∙ ap (λ (z : ℕ × List ℕ). decimal z.0 ++ z.1) s

minus_text : (m : ℕ) (more text : List ℕ) (y : ℤ × List ℕ) → drop 1 text ≡ decimal m ++ more → below_zero m more ≡ Some y → begins 45 text ≡ true → text ≡ signed_decimal y.0 ++ y.1
minus_text zero more text y f g b = absurd (cc)
minus_text (suc m) more text y f g b =
    let x : ℤ × List ℕ = (negsuc (suc m - 1), more) in
    let z : ℤ × List ℕ = (negsuc m, more) in
    let told : Some x ≡ Some y = ap (λ t. cond t None (Some x)) (sym (ne_eqb (suc m) 0 (λ e. omega arith))) ∙ g in
    let less : suc m - 1 ≡ m = omega arith in
    let same : z ≡ y = ap (λ (k : ℕ). let w : ℤ × List ℕ = (negsuc k, more) in w) (sym less) ∙ some_inv x y told in
    begins_inv 45 text b ∙ ap (λ t. 45 ∷ t) f ∙ ap (λ (w : ℤ × List ℕ). signed_decimal w.0 ++ w.1) same

pub integer_just : (text : List ℕ) (y : ℤ × List ℕ) → integer_at text ≡ Some y → text ≡ signed_decimal y.0 ++ y.1
unfolding integer_at
integer_just text y e = step (begins 45 text) refl e
  where
    step : (b : Bool) → begins 45 text ≡ b → cond b (then_read (numeral_at 9223372036854775808 (drop 1 text)) below_zero) (then_read (numeral_at 9223372036854775807 text) (λ m more. Some (pos m, more))) ≡ Some y → text ≡ signed_decimal y.0 ++ y.1
    step true b f =
        let h = read_inv (numeral_at 9223372036854775808 (drop 1 text)) below_zero y f in
        minus_text h.0.0 h.0.1 text y (numeral_just 9223372036854775808 (drop 1 text) h.0 (omega arith) h.1) h.2 b
    step false b f =
        let h = read_inv (numeral_at 9223372036854775807 text) (λ m more. Some (pos m, more)) y f in
        let x : ℤ × List ℕ = (pos h.0.0, h.0.1) in
        numeral_just 9223372036854775807 text h.0 (omega arith) h.1 ∙ ap (λ (w : ℤ × List ℕ). signed_decimal w.0 ++ w.1) (some_inv x y h.2)
