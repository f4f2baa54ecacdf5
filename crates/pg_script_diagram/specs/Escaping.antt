-- Text that XML reads as just this text.
use Rattle.std.specs.Prelude.{◌≡◌, ◌≢◌, ◌≤◌, ◌⊎◌, ℕ, List, [], ◌∷◌, ◌++◌, ◌||◌, ◌==◌, nat_lt, if◌then◌else◌, codes}
use Rattle.std.specs.List.{flat_map}
use Rattle.std.specs.Str.{encode_utf8_all}

-- the bytes grew at their end by these characters
pub record GrowsBy (text before after : List ℕ) : Type 0 where
  pub all : after ≡ before ++ encode_utf8_all text

-- the character, or U+FFFD in the place of one that XML has not
abbrev pub allowed : ℕ → ℕ
allowed c = if nat_lt c 32 || ((c == 65534) || (c == 65535)) then 65533 else c

-- `&amp;`, `&lt;`, `&gt;`, `&quot;`, `&#39;`, and each other character as it is
abbrev pub escaped_char : ℕ → List ℕ
escaped_char c =
    if c == 38 then codes "&amp;"
    else if c == 60 then codes "&lt;"
    else if c == 62 then codes "&gt;"
    else if c == 34 then codes "&quot;"
    else if c == 39 then codes "&#39;"
    else allowed c ∷ []

abbrev pub escaped : List ℕ → List ℕ
escaped = flat_map escaped_char

-- ---- what is written

-- none of `<`, `>`, `"` and `'`, and a character that XML has
pub record IsHarmless (c : ℕ) : Type 0 where
  pub less : c ≢ 60
  pub greater : c ≢ 62
  pub quote : c ≢ 34
  pub apostrophe : c ≢ 39
  pub control : 32 ≤ c
  pub noncharacter : (c ≢ 65534) × (c ≢ 65535)

-- the name of one of five characters, or a harmless character that is no `&`
abbrev pub IsName : List ℕ → Type 0
IsName piece = (piece ≡ codes "&amp;") ⊎ ((piece ≡ codes "&lt;") ⊎ ((piece ≡ codes "&gt;") ⊎ ((piece ≡ codes "&quot;") ⊎ (piece ≡ codes "&#39;"))))

abbrev pub IsPlain : List ℕ → Type 0
IsPlain [] = ⊥
IsPlain (c ∷ cs) = IsHarmless c × (c ≢ 38) × (cs ≡ [])

abbrev pub IsPiece : List ℕ → Type 0
IsPiece piece = IsName piece ⊎ IsPlain piece
