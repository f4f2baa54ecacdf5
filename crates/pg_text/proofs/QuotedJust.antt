-- What is read within quotes is what spells it.
use Rattle.std.proofs.Common.{◌≡◌, ℕ, suc, ◌+◌, ◌*◌, Bool, true, false, not, ◌&&◌, ◌||◌, ◌==◌, cond, List}
use Rattle.std.proofs.Common.{[], ◌∷◌, ◌++◌, length, refl, sym, ap, ◌∙◌, subst, append_assoc, arith, Some}
use Rattle.std.proofs.lemmas.Bool.Decides.{nat_tests}
use Rattle.std.proofs.lemmas.Int.Digits.{digits_value_push}
use Rattle.std.proofs.lemmas.List.Folds.{list_all-append}
use Rattle.std.specs.Prelude.{nat_le, nat_lt}
use Rattle.std.specs.Char.{digit_value, is_ascii_control}
use Rattle.std.specs.List.{list_all}
use Rattle.std.specs.Str.Parse.{digits_value}
use borrow.Author.Tests.{ne_eqb}
use lib.Utf8.{scalar}
use Rattle.pg_text.proofs.AtomsBack.{both}
use Rattle.pg_text.proofs.JustThose.{read_inv, some_inv}
use Rattle.pg_text.specs.declared.reading.quoted.Hex.{Hex}
use Rattle.pg_text.specs.declared.reading.quoted.Place.{Place}
use Rattle.pg_text.specs.declared.reading.quoted.Place.TheVariants.{Plain, Escape, Opening, Digits}
use Rattle.pg_text.specs.declared.reading.quoted.Quoted.TheVariants.{Close, Character, Within, Bad}
use Rattle.pg_text.specs.Reading.{with_first, is_hex, is_plain_number, plain_step, escape_step}
use Rattle.pg_text.specs.Reading.{opening_step, digits_step, quoted_next, quoted_at}
use Rattle.pg_text.specs.Spelling.{IsHexOf, IsQuoted}
use Rattle.pg_text.specs.Spelling.IsQuoted.{none, shown, escaped}
use Rattle.pg_text.specs.Writing.{quoted_text, escape_text}

-- digits of an escape that were read
record HexSoFar (hex : Hex) (ds : List ℕ) : Type 0 where
  digits : list_all is_hex ds ≡ true
  value : digits_value 16 ds ≡ hex.value
  nothing : hex.begun ≡ false → ds ≡ []
  plain : hex.begun ≡ true → is_plain_number ds ≡ true

-- the characters since the last whole one
abbrev Opened : Place → List ℕ → Type 0
Opened Plain front = front ≡ []
Opened Escape front = front ≡ 92 ∷ []
Opened Opening front = front ≡ 92 ∷ 120 ∷ []
Opened (Digits hex) front = (ds : List ℕ) × (front ≡ 92 ∷ 120 ∷ 123 ∷ ds) × HexSoFar hex ds

-- what was read up to the closing quote
record Just (whole : List ℕ) (y : List ℕ × List ℕ) : Type 0 where
  inner : List ℕ
  text : whole ≡ inner ++ 39 ∷ y.1
  quoted : IsQuoted y.0 inner

-- a character, and what spells it in front of what follows
just_more : (whole rest : List ℕ) (c : ℕ) (y : List ℕ × List ℕ) (front : List ℕ) → whole ≡ front ++ rest → ((cs inner : List ℕ) → IsQuoted cs inner → IsQuoted (c ∷ cs) (front ++ inner))
    → ((x : List ℕ × List ℕ) → quoted_at rest Plain ≡ Some x → Just rest x) → with_first c (quoted_at rest Plain) ≡ Some y → Just whole y
just_more whole rest c y front e spells ih f =
    let h = read_inv (quoted_at rest Plain) (λ cs more. Some (c ∷ cs, more)) y f in
    let j = ih h.0 h.1 in
    let z : List ℕ × List ℕ = (c ∷ h.0.0, h.0.1) in
    let here : Just whole z = record {
      inner = front ++ j.inner;
      text = e ∙ ap (λ t. front ++ t) j.text ∙ sym (append_assoc front j.inner (39 ∷ h.0.1));
      quoted = spells h.0.0 j.inner j.quoted;
    } in
    subst (Just whole) (some_inv z y h.2) here

plain_text : (c : ℕ) → (c == 39) ≡ false → (c == 92) ≡ false → is_ascii_control c ≡ false → quoted_text c ≡ c ∷ []
plain_text c a b d = let f : ((c == 39) || (c == 92)) ≡ false = grind (arith, nat_tests) in let g : (nat_lt c 32 || (c == 127)) ≡ false = grind (arith, nat_tests) in
    ap (λ t. cond t (92 ∷ c ∷ []) (cond (nat_lt c 32 || (c == 127)) (escape_text c) (c ∷ []))) f ∙ ap (λ t. cond t (escape_text c) (c ∷ [])) g

escaped_text : (c : ℕ) → ((c == 39) || (c == 92)) ≡ true → quoted_text c ≡ 92 ∷ c ∷ []
escaped_text c e = ap (λ t. cond t (92 ∷ c ∷ []) (cond (nat_lt c 32 || (c == 127)) (escape_text c) (c ∷ []))) e

same_number : (c n : ℕ) → (c == n) ≡ true → c ≡ n
same_number c n e = grind (arith, nat_tests)

or_false : (b : Bool) → (b || false) ≡ b
or_false true = refl
or_false false = refl

or_true : (b : Bool) → (b || true) ≡ true
or_true true = refl
or_true false = refl

-- one digit more has no leading zero either
plain_push : (ds : List ℕ) (c : ℕ) → is_plain_number ds ≡ true → (digits_value 16 ds == 0) ≡ false → is_plain_number (ds ++ c ∷ []) ≡ true
plain_push [] c e v = absurd (cc)
plain_push (d ∷ []) c e v = ap (λ b. not b || false) (ne_eqb d 48 (λ same. let z = subst (λ x. (digits_value 16 (x ∷ []) == 0) ≡ false) same v in absurd (cc)))
plain_push (d ∷ f ∷ ds) c e v =
    let first : not (d == 48) ≡ true = sym (or_false (not (d == 48))) ∙ ap (λ b. not (d == 48) || b) (sym (ne_eqb (suc (length ds)) 0 (λ z. omega arith))) ∙ e in
    ap (λ b. b || (length (f ∷ (ds ++ c ∷ [])) == 0)) first

hex_more : (hex : Hex) (ds : List ℕ) (c : ℕ) → HexSoFar hex ds → is_hex c ≡ true → (hex.begun && (hex.value == 0)) ≡ false → HexSoFar (record { value = hex.value * 16 + digit_value c; begun = true }) (ds ++ c ∷ [])
hex_more hex ds c h e lead = record {
  digits = list_all-append is_hex ds (c ∷ []) ∙ ap (λ b. b && (is_hex c && true)) h.digits ∙ ap (λ b. b && true) e;
  value = digits_value_push 16 ds c ∙ ap (λ v. v * 16 + digit_value c) h.value;
  nothing = λ f. absurd (cc);
  plain = λ f. step hex.begun refl;
}
  where
    step : (b : Bool) → hex.begun ≡ b → is_plain_number (ds ++ c ∷ []) ≡ true
    step true f = let zero_value : (hex.value == 0) ≡ false = ap (λ b. b && (hex.value == 0)) (sym f) ∙ lead in plain_push ds c (h.plain f) (ap (λ v. v == 0) h.value ∙ zero_value)
    step false f = subst (λ xs. is_plain_number (xs ++ c ∷ []) ≡ true) (sym (h.nothing f)) (or_true (not (c == 48)))

-- what is known of what follows a character
abbrev Later : List ℕ → Type 0
Later rest = (place : Place) (front : List ℕ) (y : List ℕ × List ℕ) → Opened place front → quoted_at rest place ≡ Some y → Just (front ++ rest) y

at_plain : (c : ℕ) (rest : List ℕ) (y : List ℕ × List ℕ) → Later rest → quoted_next (plain_step c) rest (λ p. quoted_at rest p) ≡ Some y → Just (c ∷ rest) y
at_plain c rest y ih = step (c == 39) refl (c == 92) refl (is_ascii_control c) refl
  where
    step : (a : Bool) → (c == 39) ≡ a → (b : Bool) → (c == 92) ≡ b → (d : Bool) → is_ascii_control c ≡ d
        → quoted_next (cond a Close (cond b (Within Escape) (cond d Bad (Character c)))) rest (λ p. quoted_at rest p) ≡ Some y → Just (c ∷ rest) y
    step true ea b eb d ed f = let z : List ℕ × List ℕ = ([], rest) in let here : Just (c ∷ rest) z = record { inner = []; text = ap (λ x. x ∷ rest) (same_number c 39 ea); quoted = none } in subst (Just (c ∷ rest)) (some_inv z y f) here
    step false ea true eb d ed f = subst (λ x. Just (x ∷ rest) y) (sym (same_number c 92 eb)) (ih Escape (92 ∷ []) y refl f)
    step false ea false eb true ed f = absurd (cc)
    step false ea false eb false ed f = just_more (c ∷ rest) rest c y (c ∷ []) refl (λ cs inner q. subst (λ t. IsQuoted (c ∷ cs) (t ++ inner)) (plain_text c ea eb ed) (shown c cs inner q)) (λ x g. ih Plain [] x refl g) f

at_escape : (c : ℕ) (rest : List ℕ) (y : List ℕ × List ℕ) → Later rest → quoted_next (escape_step c) rest (λ p. quoted_at rest p) ≡ Some y → Just (92 ∷ c ∷ rest) y
at_escape c rest y ih = step ((c == 39) || (c == 92)) refl (c == 120) refl
  where
    step : (a : Bool) → ((c == 39) || (c == 92)) ≡ a → (b : Bool) → (c == 120) ≡ b
        → quoted_next (cond a (Character c) (cond b (Within Opening) Bad)) rest (λ p. quoted_at rest p) ≡ Some y → Just (92 ∷ c ∷ rest) y
    step true ea b eb f = just_more (92 ∷ c ∷ rest) rest c y (92 ∷ c ∷ []) refl (λ cs inner q. subst (λ t. IsQuoted (c ∷ cs) (t ++ inner)) (escaped_text c ea) (shown c cs inner q)) (λ x g. ih Plain [] x refl g) f
    step false ea true eb f = subst (λ x. Just (92 ∷ x ∷ rest) y) (sym (same_number c 120 eb)) (ih Opening (92 ∷ 120 ∷ []) y refl f)
    step false ea false eb f = absurd (cc)

no_digits : HexSoFar (record { value = 0; begun = false }) []
no_digits = record { digits = refl; value = refl; nothing = λ f. refl; plain = λ f. absurd (cc) }

at_opening : (c : ℕ) (rest : List ℕ) (y : List ℕ × List ℕ) → Later rest → quoted_next (opening_step c) rest (λ p. quoted_at rest p) ≡ Some y → Just (92 ∷ 120 ∷ c ∷ rest) y
at_opening c rest y ih = step (c == 123) refl
  where
    step : (b : Bool) → (c == 123) ≡ b → quoted_next (cond b (Within (Digits (record { value = 0; begun = false }))) Bad) rest (λ p. quoted_at rest p) ≡ Some y → Just (92 ∷ 120 ∷ c ∷ rest) y
    step true eb f = subst (λ x. Just (92 ∷ 120 ∷ x ∷ rest) y) (sym (same_number c 123 eb)) (ih (Digits (record { value = 0; begun = false })) (92 ∷ 120 ∷ 123 ∷ []) y ([], refl, no_digits) f)
    step false eb f = absurd (cc)

three_false : (a b d : Bool) → ((not a || b) || d) ≡ false → (a ≡ true) × (b ≡ false)
three_false true true d e = absurd (cc)
three_false true false d e = (refl, refl)
three_false false b d e = absurd (cc)

at_digits : (c : ℕ) (rest : List ℕ) (hex : Hex) (ds : List ℕ) (y : List ℕ × List ℕ) → HexSoFar hex ds → Later rest → quoted_next (digits_step hex c) rest (λ p. quoted_at rest p) ≡ Some y → Just (92 ∷ 120 ∷ 123 ∷ (ds ++ c ∷ rest)) y
at_digits c rest hex ds y h ih = step ((c == 125) && hex.begun) refl (scalar hex.value) refl ((not (is_hex c) || (hex.begun && (hex.value == 0))) || nat_le 1114112 hex.value) refl
  where
    step : (a : Bool) → ((c == 125) && hex.begun) ≡ a → (s : Bool) → scalar hex.value ≡ s → (b : Bool) → ((not (is_hex c) || (hex.begun && (hex.value == 0))) || nat_le 1114112 hex.value) ≡ b
        → quoted_next (cond a (cond s (Character hex.value) Bad) (cond b Bad (Within (Digits (record { value = hex.value * 16 + digit_value c; begun = true }))))) rest (λ p. quoted_at rest p) ≡ Some y
        → Just (92 ∷ 120 ∷ 123 ∷ (ds ++ c ∷ rest)) y
    step true ea true es b eb f =
        let t = both (c == 125) hex.begun ea in
        let whole : 92 ∷ 120 ∷ 123 ∷ (ds ++ c ∷ rest) ≡ 92 ∷ 120 ∷ 123 ∷ ((ds ++ 125 ∷ []) ++ rest) = ap (λ x. 92 ∷ 120 ∷ 123 ∷ (ds ++ x ∷ rest)) (same_number c 125 t.0) ∙ ap (λ x. 92 ∷ 120 ∷ 123 ∷ x) (sym (append_assoc ds (125 ∷ []) rest)) in
        let of : IsHexOf ds hex.value = record { digits = h.digits; plain = h.plain t.1; value = h.value; character = es } in
        just_more (92 ∷ 120 ∷ 123 ∷ (ds ++ c ∷ rest)) rest hex.value y (92 ∷ 120 ∷ 123 ∷ (ds ++ 125 ∷ [])) whole
        (λ cs inner q. subst (λ x. IsQuoted (hex.value ∷ cs) (92 ∷ 120 ∷ 123 ∷ x)) (sym (append_assoc ds (125 ∷ []) inner)) (escaped hex.value ds cs inner of q)) (λ x g. ih Plain [] x refl g) f
    step true ea false es b eb f = absurd (cc)
    step false ea s es true eb f = absurd (cc)
    step false ea s es false eb f =
        let t = three_false (is_hex c) (hex.begun && (hex.value == 0)) (nat_le 1114112 hex.value) eb in
        subst (λ x. Just (92 ∷ 120 ∷ 123 ∷ x) y) (append_assoc ds (c ∷ []) rest)
        (ih (Digits (record { value = hex.value * 16 + digit_value c; begun = true })) (92 ∷ 120 ∷ 123 ∷ (ds ++ c ∷ [])) y (ds ++ c ∷ [], refl, hex_more hex ds c h t.0 t.1) f)

-- the same of a text that is opened there
quoted_just : (text : List ℕ) → Later text
quoted_just [] place front y opened e = absurd (cc)
quoted_just (c ∷ rest) Plain front y opened e = subst (λ t. Just (t ++ c ∷ rest) y) (sym opened) (at_plain c rest y (quoted_just rest) e)
quoted_just (c ∷ rest) Escape front y opened e = subst (λ t. Just (t ++ c ∷ rest) y) (sym opened) (at_escape c rest y (quoted_just rest) e)
quoted_just (c ∷ rest) Opening front y opened e = subst (λ t. Just (t ++ c ∷ rest) y) (sym opened) (at_opening c rest y (quoted_just rest) e)
quoted_just (c ∷ rest) (Digits hex) front y opened e = subst (λ t. Just (t ++ c ∷ rest) y) (sym opened.1) (at_digits c rest hex opened.0 y opened.2 (quoted_just rest) e)

-- up to the closing quote
pub within_quotes : (text : List ℕ) (y : List ℕ × List ℕ) → quoted_at text Plain ≡ Some y → (inner : List ℕ) × (text ≡ inner ++ 39 ∷ y.1) × IsQuoted y.0 inner
within_quotes text y e = let j = quoted_just text Plain [] y refl e in (j.inner, j.text, j.quoted)
