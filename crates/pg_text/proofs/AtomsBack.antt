-- What is written of an atom is read as that atom.
use Rattle.std.proofs.Common.{◌≡◌, ℕ, ◌+◌, ◌*◌, ◌/◌, ◌%◌, ◌<◌, ◌≤◌, Bool, true, false, not, ◌&&◌, ◌||◌, ◌==◌, cond}
use Rattle.std.proofs.Common.{List, [], ◌∷◌, ◌++◌, length, take, drop, refl, ap, ◌∙◌, append_assoc, arith, Some, None}
use Rattle.std.proofs.lemmas.Bool.Decides.{nat_tests}
use Rattle.std.proofs.lemmas.List.Folds.{prefix_len-append}
use Rattle.std.specs.Char.{is_ascii_digit, is_ascii_lowercase, digit_value, digit_char}
use Rattle.std.specs.List.{prefix_len, flat_map, list_all}
use Rattle.std.specs.Prelude.{nat_lt, nat_le}
use lib.Utf8.{scalar, scalars}
use borrow.Author.Tests.{eq-eqb, ne_eqb}
use Rattle.pg_text.specs.declared.reading.quoted.Place.TheVariants.{Plain, Opening, Digits}
use Rattle.pg_text.specs.declared.reading.quoted.Quoted.TheVariants.{Character, Within, Bad}
use Rattle.pg_text.specs.Reading.{quoted_at, quoted_next, plain_step, digit_step, digits_step, escaped_step, is_hex}
use Rattle.pg_text.specs.Reading.{with_first, then_read, begins, short, atom_at, unless_bare, bare_at, begins_number}
use Rattle.pg_text.specs.Again.{NoWord}
use Rattle.pg_text.proofs.NumbersBack.{take_front, drop_front}
use Rattle.pg_text.specs.Writing.{quoted_text, escape_text, hex_text, is_word_byte, needs_no_quotes, begins_lower, atom_text}

-- a digit of an escape
hex_digit : (d : ℕ) → d < 16 → is_hex (digit_char d) ≡ true
hex_digit d lt = grind (arith, nat_tests)

hex_value : (d : ℕ) → d < 16 → digit_value (digit_char d) ≡ d
hex_value d lt = grind (arith, nat_tests)

hex_goes_on : (d : ℕ) → d < 16 → (digit_char d == 125) ≡ false
hex_goes_on d lt = grind (arith, nat_tests)

-- one digit more
digit_read : (value d : ℕ) (begun : Bool) → d < 16 → value < 1114112 → (begun && (value == 0)) ≡ false
    → digits_step (record { value = value; begun = begun }) (digit_char d) ≡ Within (Digits (record { value = value * 16 + d; begun = true }))
digit_read value d begun lt small lead =
    let few : nat_le 1114112 value ≡ false = grind (arith, nat_tests) in
    ap (λ b. cond (b && begun) (escaped_step value) (digit_step (record { value = value; begun = begun }) (digit_char d))) (hex_goes_on d lt)
    ∙ ap (λ b. cond ((not b || (begun && (value == 0))) || nat_le 1114112 value) Bad (Within (Digits (record { value = value * 16 + digit_value (digit_char d); begun = true })))) (hex_digit d lt)
    ∙ ap (λ b. cond (b || nat_le 1114112 value) Bad (Within (Digits (record { value = value * 16 + digit_value (digit_char d); begun = true })))) lead
    ∙ ap (λ b. cond b Bad (Within (Digits (record { value = value * 16 + digit_value (digit_char d); begun = true })))) few
    ∙ ap (λ v. Within (Digits (record { value = value * 16 + v; begun = true }))) (hex_value d lt)

-- the end of an escape
pub escape_end : (c : ℕ) (rest : List ℕ) → scalar c ≡ true → quoted_at (125 ∷ rest) (Digits (record { value = c; begun = true })) ≡ with_first c (quoted_at rest Plain)
escape_end c rest s = ap (λ b. quoted_next (cond b (Character c) Bad) rest (λ next. quoted_at rest next)) s

-- the digits of an escape
hex_read : (c : ℕ) (rest : List ℕ) → c < 256 → quoted_at (hex_text c ++ rest) (Digits (record { value = 0; begun = false })) ≡ quoted_at rest (Digits (record { value = c; begun = true }))
hex_read c rest lt = step (nat_lt c 16) refl
  where
    step : (b : Bool) → nat_lt c 16 ≡ b
        → quoted_at ((cond b (digit_char c ∷ []) (digit_char (c / 16) ∷ digit_char (c % 16) ∷ [])) ++ rest) (Digits (record { value = 0; begun = false })) ≡ quoted_at rest (Digits (record { value = c; begun = true }))
    step true e =
        let small : c < 16 = grind (arith, nat_tests) in
        ap (λ q. quoted_next q rest (λ next. quoted_at rest next)) (digit_read 0 c false small (omega arith) refl)
        ∙ ap (λ v. quoted_at rest (Digits (record { value = v; begun = true }))) (omega arith)
    step false e =
        let large : 16 ≤ c = grind (arith, nat_tests) in
        ap (λ q. quoted_next q (digit_char (c % 16) ∷ rest) (λ next. quoted_at (digit_char (c % 16) ∷ rest) next)) (digit_read 0 (c / 16) false (omega arith) (omega arith) refl)
        ∙ ap (λ q. quoted_next q rest (λ next. quoted_at rest next)) (digit_read (0 * 16 + c / 16) (c % 16) true (omega arith) (omega arith) (ne_eqb (0 * 16 + c / 16) 0 (λ z. omega arith)))
        ∙ ap (λ v. quoted_at rest (Digits (record { value = v; begun = true }))) (omega arith)

escape_read : (c : ℕ) (rest : List ℕ) → c < 256 → scalar c ≡ true → quoted_at (escape_text c ++ rest) Plain ≡ with_first c (quoted_at rest Plain)
escape_read c rest lt s =
    ap (λ t. quoted_at t (Digits (record { value = 0; begun = false }))) (append_assoc (hex_text c) (125 ∷ []) rest) ∙ hex_read c (125 ∷ rest) lt ∙ escape_end c rest s

plain_read : (c : ℕ) → ((c == 39) || (c == 92)) ≡ false → (nat_lt c 32 || (c == 127)) ≡ false → plain_step c ≡ Character c
plain_read c a b = grind (arith, nat_tests)

is_small : (c : ℕ) → (nat_lt c 32 || (c == 127)) ≡ true → c < 256
is_small c e = grind (arith, nat_tests)

-- one character
pub character_read : (c : ℕ) (rest : List ℕ) → scalar c ≡ true → quoted_at (quoted_text c ++ rest) Plain ≡ with_first c (quoted_at rest Plain)
character_read c rest s = step ((c == 39) || (c == 92)) refl (nat_lt c 32 || (c == 127)) refl
  where
    step : (a : Bool) → ((c == 39) || (c == 92)) ≡ a → (b : Bool) → (nat_lt c 32 || (c == 127)) ≡ b
        → quoted_at ((cond a (92 ∷ c ∷ []) (cond b (escape_text c) (c ∷ []))) ++ rest) Plain ≡ with_first c (quoted_at rest Plain)
    step true e b f = ap (λ x. quoted_next (cond x (Character c) (cond (c == 120) (Within Opening) Bad)) rest (λ next. quoted_at rest next)) e
    step false e true f = escape_read c rest (is_small c f) s
    step false e false f = ap (λ q. quoted_next q rest (λ next. quoted_at rest next)) (plain_read c e f)

pub both : (a b : Bool) → (a && b) ≡ true → (a ≡ true) × (b ≡ true)
both true b e = (refl, e)
both false b e = absurd (cc)

pub quoted_back : (cs rest : List ℕ) → scalars cs ≡ true → quoted_at (flat_map quoted_text cs ++ 39 ∷ rest) Plain ≡ Some (cs, rest)
quoted_back [] rest s = refl
quoted_back (c ∷ cs) rest s =
    let h = both (scalar c) (scalars cs) s in
    ap (λ t. quoted_at t Plain) (append_assoc (quoted_text c) (flat_map quoted_text cs) (39 ∷ rest))
    ∙ character_read c (flat_map quoted_text cs ++ 39 ∷ rest) h.0
    ∙ ap (with_first c) (quoted_back cs rest h.1)

-- ---- bare atoms

words_pass : (cs : List ℕ) → list_all is_word_byte cs ≡ true → prefix_len is_word_byte cs ≡ length cs
words_pass [] e = refl
words_pass (c ∷ cs) e = let h = both (is_word_byte c) (list_all is_word_byte cs) e in ap (λ b. cond b (1 + prefix_len is_word_byte cs) 0) h.0 ∙ omega (arith, words_pass cs h.1)

word_stops : (cs rest : List ℕ) → list_all is_word_byte cs ≡ true → NoWord rest → prefix_len is_word_byte (cs ++ rest) ≡ length cs
word_stops cs rest e none =
    prefix_len-append is_word_byte cs rest ∙ ap (λ b. cond b (length cs + prefix_len is_word_byte rest) (prefix_len is_word_byte cs)) (eq-eqb _ _ (words_pass cs e)) ∙ omega (arith, none)

lower_begins : (cs rest : List ℕ) → begins_lower cs ≡ true → begins_lower (cs ++ rest) ≡ true
lower_begins [] rest e = absurd (cc)
lower_begins (c ∷ cs) rest e = e

no_quote : (cs rest : List ℕ) → begins_lower cs ≡ true → begins 39 (cs ++ rest) ≡ false
no_quote [] rest e = absurd (cc)
no_quote (c ∷ cs) rest e = grind (arith, nat_tests)

pub short_atom : (cs rest : List ℕ) → length cs ≤ 255 → short cs rest ≡ Some (cs, rest)
short_atom cs rest few = let f : nat_lt 255 (length cs) ≡ false = grind (arith, nat_tests) in ap (λ b. cond b None (Some (cs, rest))) f

pub atom_back : (cs rest : List ℕ) → length cs ≤ 255 → scalars cs ≡ true → NoWord rest → atom_at (atom_text cs ++ rest) ≡ Some (cs, rest)
unfolding atom_at atom_text
atom_back cs rest few s none = step (needs_no_quotes cs) refl
  where
    step : (b : Bool) → needs_no_quotes cs ≡ b → atom_at ((cond b cs (39 ∷ flat_map quoted_text cs ++ 39 ∷ [])) ++ rest) ≡ Some (cs, rest)
    step true e =
        let h = both (begins_lower cs) (list_all is_word_byte cs) e in
        ap (λ b. cond b (then_read (quoted_at (drop 1 (cs ++ rest)) Plain) unless_bare) (cond (begins_lower (cs ++ rest)) (bare_at (cs ++ rest)) None)) (no_quote cs rest h.0)
        ∙ ap (λ b. cond b (bare_at (cs ++ rest)) None) (lower_begins cs rest h.0)
        ∙ ap (λ k. short (take k (cs ++ rest)) (drop k (cs ++ rest))) (word_stops cs rest h.1 none)
        ∙ ap (λ xs. short xs (drop (length cs) (cs ++ rest))) (take_front cs rest)
        ∙ ap (short cs) (drop_front cs rest) ∙ short_atom cs rest few
    step false e =
        ap (λ t. then_read (quoted_at t Plain) unless_bare) (append_assoc (flat_map quoted_text cs) (39 ∷ []) rest)
        ∙ ap (λ r. then_read r unless_bare) (quoted_back cs rest s)
        ∙ ap (λ b. cond b None (short cs rest)) e ∙ short_atom cs rest few

-- which characters begin the text of an atom
pub atom_begins : (cs rest : List ℕ) (k : ℕ) → is_ascii_lowercase k ≡ false → (39 == k) ≡ false → begins k (atom_text cs ++ rest) ≡ false
unfolding atom_text
atom_begins cs rest k other quote = step cs (needs_no_quotes cs) refl
  where
    bare : (ds : List ℕ) → needs_no_quotes ds ≡ true → begins k (ds ++ rest) ≡ false
    bare [] e = absurd (cc)
    bare (d ∷ ds) e = ne_eqb d k (λ same. let lower : is_ascii_lowercase d ≡ true = (both (is_ascii_lowercase d) (list_all is_word_byte (d ∷ ds)) e).0 in let z : is_ascii_lowercase d ≡ false = ap is_ascii_lowercase same ∙ other in absurd (cc))

    step : (ds : List ℕ) (b : Bool) → needs_no_quotes ds ≡ b → begins k ((cond b ds (39 ∷ flat_map quoted_text ds ++ 39 ∷ [])) ++ rest) ≡ false
    step ds true e = bare ds e
    step ds false e = quote

pub atom_no_number : (cs rest : List ℕ) → begins_number (atom_text cs ++ rest) ≡ false
unfolding atom_text
atom_no_number cs rest = step cs (needs_no_quotes cs) refl
  where
    letter : (d : ℕ) → is_ascii_lowercase d ≡ true → ((d == 45) || is_ascii_digit d) ≡ false
    letter d e = grind (arith, nat_tests)

    bare : (ds : List ℕ) → needs_no_quotes ds ≡ true → begins_number (ds ++ rest) ≡ false
    bare [] e = absurd (cc)
    bare (d ∷ ds) e = letter d ((both (is_ascii_lowercase d) (list_all is_word_byte (d ∷ ds)) e).0)

    step : (ds : List ℕ) (b : Bool) → needs_no_quotes ds ≡ b → begins_number ((cond b ds (39 ∷ flat_map quoted_text ds ++ 39 ∷ [])) ++ rest) ≡ false
    step ds true e = bare ds e
    step ds false e = refl

pub atom_some : (cs : List ℕ) → 1 ≤ length (atom_text cs)
unfolding atom_text
atom_some cs = step cs (needs_no_quotes cs) refl
  where
    step : (ds : List ℕ) (b : Bool) → needs_no_quotes ds ≡ b → 1 ≤ length (cond b ds (39 ∷ flat_map quoted_text ds ++ 39 ∷ []))
    step [] true e = absurd (cc)
    step (d ∷ ds) true e = omega arith
    step ds false e = omega arith
