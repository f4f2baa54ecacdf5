-- Characters that are gathered one after another.
use Rattle.std.proofs.Common.{◌≡◌, ℕ, List, [], ◌∷◌, ◌++◌, sym, ap, ◌∙◌, Some, None}
use Rattle.std.proofs.lemmas.List.{append-nil}
use Rattle.std.proofs.lemmas.Str.{chars_from_encodes, encodes-append, encodes-chars, IsUtf8-string_bytes, chars-nil}
use Rattle.std.specs.Str.{chars, encode_utf8_all}
use Rattle.std.specs.Char.{encode_utf8}
use Rattle.std.specs.String.{string_bytes}
use Rattle.std.specs.declared.string.String.{String}
use Rattle.pg_text.specs.declared.reading.quoted.Place.{Place}
use Rattle.pg_text.specs.declared.reading.quoted.Quoted.TheVariants.{Close, Character, Within, Bad}
use Rattle.pg_text.specs.declared.reading.quoted.Place.TheVariants.{Plain}
use Rattle.pg_text.proofs.Fronts.{front_more}
use Rattle.pg_text.specs.Reading.{quoted_at, quoted_step, quoted_next, with_front}

pub chars_push : {Z : Type 0} (s t : String Z) (c : ℕ) → string_bytes t ≡ string_bytes s ++ encode_utf8 c → chars (string_bytes t) ≡ chars (string_bytes s) ++ c ∷ []
chars_push s t c e =
    let bytes : encode_utf8_all (chars (string_bytes s) ++ c ∷ []) ≡ string_bytes t =
    encodes-append (chars (string_bytes s)) (c ∷ []) ∙ ap (λ x. x ++ (encode_utf8 c ++ [])) (encodes-chars (string_bytes s) (IsUtf8-string_bytes s))
    ∙ ap (λ x. string_bytes s ++ x) (append-nil (encode_utf8 c)) ∙ sym e in
    sym (chars_from_encodes (chars (string_bytes s) ++ c ∷ []) (string_bytes t) (IsUtf8-string_bytes t) bytes)

pub chars_none : (bytes : List ℕ) → bytes ≡ [] → chars bytes ≡ []
chars_none bytes e = ap chars e ∙ chars-nil

-- a character more
pub quoted_grows : (text front front2 rest follows : List ℕ) (x : ℕ) (place : Place) (c : ℕ) → rest ≡ x ∷ follows → quoted_step place x ≡ Character c → front2 ≡ front ++ c ∷ []
    → quoted_at text Plain ≡ with_front front (quoted_at rest place) → quoted_at text Plain ≡ with_front front2 (quoted_at follows Plain)
quoted_grows text front front2 rest follows x place c e step f h =
    h ∙ ap (with_front front) (ap (λ t. quoted_at t place) e ∙ ap (λ q. quoted_next q follows (λ next. quoted_at follows next)) step)
    ∙ front_more front c (quoted_at follows Plain) ∙ ap (λ y. with_front y (quoted_at follows Plain)) (sym f)

-- no character yet
pub quoted_goes : (text front rest follows : List ℕ) (x : ℕ) (place next : Place) → rest ≡ x ∷ follows → quoted_step place x ≡ Within next
    → quoted_at text Plain ≡ with_front front (quoted_at rest place) → quoted_at text Plain ≡ with_front front (quoted_at follows next)
quoted_goes text front rest follows x place next e step h =
    h ∙ ap (with_front front) (ap (λ t. quoted_at t place) e ∙ ap (λ q. quoted_next q follows (λ p. quoted_at follows p)) step)

-- the closing quote
pub quoted_closes : (text front rest follows : List ℕ) (x : ℕ) (place : Place) → rest ≡ x ∷ follows → quoted_step place x ≡ Close
    → quoted_at text Plain ≡ with_front front (quoted_at rest place) → quoted_at text Plain ≡ Some (front, follows)
quoted_closes text front rest follows x place e step h =
    h ∙ ap (with_front front) (ap (λ t. quoted_at t place) e ∙ ap (λ q. quoted_next q follows (λ p. quoted_at follows p)) step) ∙ ap (λ y. Some (y, follows)) (append-nil front)

-- a character that cannot stand there
pub quoted_spoilt : (text front rest follows : List ℕ) (x : ℕ) (place : Place) → rest ≡ x ∷ follows → quoted_step place x ≡ Bad
    → quoted_at text Plain ≡ with_front front (quoted_at rest place) → quoted_at text Plain ≡ None
quoted_spoilt text front rest follows x place e step h =
    h ∙ ap (with_front front) (ap (λ t. quoted_at t place) e ∙ ap (λ q. quoted_next q follows (λ p. quoted_at follows p)) step)

-- no closing quote
pub quoted_open : (text front rest : List ℕ) (place : Place) → rest ≡ []
    → quoted_at text Plain ≡ with_front front (quoted_at rest place) → quoted_at text Plain ≡ None
quoted_open text front rest place e h = h ∙ ap (with_front front) (ap (λ t. quoted_at t place) e)
