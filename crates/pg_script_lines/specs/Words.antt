-- The words of a line, which single spaces part; a space within single quotes belongs to its word.
use Rattle.std.specs.Prelude.{◌≡◌, ℕ, suc, List, [], ◌∷◌, Bool, true, false, ◌==◌}
use Rattle.std.specs.Prelude.{if◌then◌else◌, Option, Some, None, option_map}
use Rattle.pg_script_lines.specs.declared.words.Stand.{Stand}
use Rattle.pg_script_lines.specs.declared.words.Stand.TheVariants.{Bare, Quoted, Escaped}
use Rattle.pg_script_lines.specs.declared.words.Words.{Words}

-- where a walk stands behind one more byte: a quote opens and closes, and within quotes a backslash takes the next byte
abbrev pub stand_after : Stand → ℕ → Stand
stand_after Bare b = if b == 39 then Quoted else Bare
stand_after Quoted b = if b == 39 then Bare else if b == 92 then Escaped else Quoted
stand_after Escaped b = Quoted

-- a space outside of quotes ends a word
abbrev pub ends_word : Stand → ℕ → Bool
ends_word Bare b = b == 32
ends_word Quoted b = false
ends_word Escaped b = false

-- how many bytes there are before the end of the first word
abbrev pub word_len : Stand → List ℕ → ℕ
word_len stand [] = 0
word_len stand (b ∷ bs) = if ends_word stand b then 0 else suc (word_len (stand_after stand b) bs)

-- a byte before the first of some words
abbrev pub onto : ℕ → List (List ℕ) → List (List ℕ)
onto b [] = (b ∷ []) ∷ []
onto b (word ∷ words) = (b ∷ word) ∷ words

-- the words of a text
abbrev pub quoted_words : Stand → List ℕ → List (List ℕ)
quoted_words stand [] = [] ∷ []
quoted_words stand (b ∷ bs) = if ends_word stand b then [] ∷ quoted_words Bare bs else onto b (quoted_words (stand_after stand b) bs)

abbrev pub words_of_rest : Option (List ℕ) → List (List ℕ)
words_of_rest None = []
words_of_rest (Some rest) = quoted_words Bare rest

-- the first word was taken, if there is one
abbrev pub TakesWord : List (List ℕ) → Option (List ℕ) → List (List ℕ) → Type 0
TakesWord old None new = (old ≡ []) × (new ≡ [])
TakesWord old (Some word) new = old ≡ word ∷ new

-- the words that are left of a line
abbrev pub words_left : Words → List (List ℕ)
words_left words = words_of_rest (option_map (λ s. s.now) words.rest)
