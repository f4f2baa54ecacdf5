-- Latin-1 as UTF-8.
use Rattle.std.proofs.Common.{◌≡◌, ℕ, suc, ◌+◌, ◌<◌, ◌≤◌, Bool, true, false, cond, ltb, List}
use Rattle.std.proofs.Common.{[], ◌∷◌, ◌++◌, length, take, get_or, refl, ap, ◌∙◌, arith}
use Rattle.std.specs.Char.{encode_utf8, len_utf8}
use Rattle.std.specs.Str.{chars, encode_utf8_all, all_scalars}
use Rattle.std.proofs.lemmas.Bool.{lt-ltb}
use Rattle.std.proofs.lemmas.List.{append-nil, take_more}
use Rattle.std.proofs.lemmas.Str.{chars-encodes, encodes-append, length-encode}
use Rattle.std.proofs.Math.Utf8.{low_scalar}

at_most_two : (b : Bool) (n : ℕ) → cond b 1 (cond true 2 n) ≤ 2
at_most_two true n = omega arith
at_most_two false n = omega arith

-- a character of Latin-1 takes at most two bytes
pub latin_short : (c : ℕ) → c < 256 → length (encode_utf8 c) ≤ 2
latin_short c h =
    let low : ltb c 0x800 ≡ true = lt-ltb c 0x800 (omega arith) in
    let short : len_utf8 c ≤ 2 = rw low (at_most_two (ltb c 0x80) (cond (ltb c 0x1_0000) 3 4)) in
    omega (arith, length-encode c, short)

pub latin_more : (bytes : List ℕ) (i : ℕ) → i < length bytes → encode_utf8_all (take (i + 1) bytes) ≡ encode_utf8_all (take i bytes) ++ encode_utf8 (get_or bytes i 0)
latin_more bytes i h =
    ap encode_utf8_all (take_more bytes i 0 h) ∙ encodes-append (take i bytes) (get_or bytes i 0 ∷ []) ∙ ap (λ (t : List ℕ). encode_utf8_all (take i bytes) ++ t) (append-nil (encode_utf8 (get_or bytes i 0)))

-- each byte is a character
latin_scalars : (bytes : List ℕ) → ((i : ℕ) → get_or bytes i 0 < 256) → all_scalars bytes ≡ true
latin_scalars [] h = refl
latin_scalars (c ∷ cs) h = rw (low_scalar c (omega (arith, h 0))) (latin_scalars cs (λ i. h (suc i)))

pub latin_chars : (bytes : List ℕ) → ((i : ℕ) → get_or bytes i 0 < 256) → chars (encode_utf8_all bytes) ≡ bytes
latin_chars bytes h = chars-encodes bytes (latin_scalars bytes h)
