-- The characters of a bare atom at the front of a text.
use Rattle.std.proofs.Common.{◌≡◌, ℕ, suc, ◌+◌, ◌-◌, Bool, true, false, ◌&&◌, cond, List, [], ◌∷◌, ◌++◌, length, take, drop, sym, ap, ◌∙◌, refl, subst, arith, append_assoc}
use Rattle.std.proofs.lemmas.Bool.Decides.{nat_tests}
use Rattle.std.proofs.lemmas.List.{append-nil, length-append, take_at, drop_at}
use Rattle.std.proofs.lemmas.List.Folds.{list_all-append}
use Rattle.std.proofs.lemmas.Str.{chars-append, chars-nil, chars_past_char, IsUtf8-append, IsUtf8-encode, IsUtf8-nil, IsCharBoundary-at_seam}
use Rattle.std.specs.Char.{encode_utf8}
use Rattle.std.specs.List.{list_all, prefix_len}
use Rattle.std.specs.Str.{chars, IsUtf8, IsCharBoundary}
use lib.Utf8.{scalar}
use Rattle.pg_text.specs.Writing.{is_word_byte}

-- How many characters of a bare atom are at the front.
abbrev pub word_len : List ℕ → ℕ
word_len text = prefix_len is_word_byte text

-- What is known while they are passed by: such characters alone stand before what is left.
pub record Passes (text rest : List ℕ) : Type 0 where
  pub front : List ℕ
  pub utf8 : IsUtf8 front
  pub whole : text ≡ front ++ rest
  pub words : list_all is_word_byte (chars front) ≡ true

pub passes_none : (text : List ℕ) → Passes text text
passes_none text = record { front = []; utf8 = IsUtf8-nil; whole = refl; words = ap (list_all is_word_byte) chars-nil }

scalar_word : (c : ℕ) → is_word_byte c ≡ true → scalar c ≡ true
scalar_word c e = grind (arith, nat_tests)

one_char : (c : ℕ) → scalar c ≡ true → chars (encode_utf8 c) ≡ c ∷ []
one_char c e = chars_past_char (encode_utf8 c) [] c (IsUtf8-encode c e) (sym (append-nil (encode_utf8 c))) ∙ ap (λ cs. c ∷ cs) chars-nil

pub passes_on : (text rest follows : List ℕ) (c : ℕ) → rest ≡ encode_utf8 c ++ follows → is_word_byte c ≡ true → Passes text rest → Passes text follows
passes_on text rest follows c e word g =
    let s = scalar_word c word in
    record {
      front = g.front ++ encode_utf8 c;
      utf8 = IsUtf8-append g.front (encode_utf8 c) g.utf8 (IsUtf8-encode c s);
      whole = g.whole ∙ ap (λ t. g.front ++ t) e ∙ sym (append_assoc g.front (encode_utf8 c) follows);
      words = ap (list_all is_word_byte) (chars-append g.front (encode_utf8 c) g.utf8 ∙ ap (λ cs. chars g.front ++ cs) (one_char c s))
          ∙ list_all-append is_word_byte (chars g.front) (c ∷ []) ∙ ap (λ b. b && (is_word_byte c && true)) g.words ∙ ap (λ b. b && true) word;
    }

span : (xs ys : List ℕ) → list_all is_word_byte xs ≡ true → word_len ys ≡ 0 → word_len (xs ++ ys) ≡ length xs
span [] ys all none = none
span (x ∷ xs) ys all none = step (is_word_byte x) refl (span xs ys)
  where
    step : (b : Bool) → is_word_byte x ≡ b → (list_all is_word_byte xs ≡ true → word_len ys ≡ 0 → word_len (xs ++ ys) ≡ length xs) → cond (is_word_byte x) (1 + word_len (xs ++ ys)) 0 ≡ suc (length xs)
    step true e h = ap (λ b. cond b (1 + word_len (xs ++ ys)) 0) e ∙ omega (arith, h (sym (ap (λ b. b && list_all is_word_byte xs) e) ∙ all) none)
    step false e h = let bad : false ≡ true = sym (ap (λ b. b && list_all is_word_byte xs) e) ∙ all in absurd (cc)

passed_len : (text rest : List ℕ) (g : Passes text rest) → length text - length rest ≡ length g.front
passed_len text rest g = omega (arith, ap length g.whole, length-append g.front rest)

passed_chars : (text rest : List ℕ) (g : Passes text rest) → chars text ≡ chars g.front ++ chars rest
passed_chars text rest g = ap chars g.whole ∙ chars-append g.front rest g.utf8

counted : (text rest : List ℕ) (g : Passes text rest) → word_len (chars rest) ≡ 0 → word_len (chars text) ≡ length (chars g.front)
counted text rest g none = ap word_len (passed_chars text rest g) ∙ span (chars g.front) (chars rest) g.words none

pub passed_cut : (text rest : List ℕ) → IsUtf8 rest → Passes text rest → IsCharBoundary text (length text - length rest)
passed_cut text rest utf8 g = subst (IsCharBoundary text) (sym (passed_len text rest g)) (IsCharBoundary-at_seam text g.front rest g.whole utf8)

pub passed_word : (text rest : List ℕ) → word_len (chars rest) ≡ 0 → Passes text rest → chars (take (length text - length rest) text) ≡ take (word_len (chars text)) (chars text)
passed_word text rest none g =
    ap chars (ap (take (length text - length rest)) g.whole ∙ take_at g.front rest (length text - length rest) (sym (passed_len text rest g)))
    ∙ sym (take_at (chars g.front) (chars rest) (word_len (chars text)) (sym (counted text rest g none))) ∙ ap (take (word_len (chars text))) (sym (passed_chars text rest g))

pub passed_rest : (text rest : List ℕ) → word_len (chars rest) ≡ 0 → Passes text rest → chars rest ≡ drop (word_len (chars text)) (chars text)
passed_rest text rest none g =
    sym (drop_at (chars g.front) (chars rest) (word_len (chars text)) (sym (counted text rest g none))) ∙ ap (drop (word_len (chars text))) (sym (passed_chars text rest g))
