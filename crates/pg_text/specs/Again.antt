-- What is written of a term is read as that term.
use Rattle.std.specs.Prelude.{◌≡◌, ℕ, ◌≤◌, false, List, ◌++◌, length, Some}
use Rattle.std.specs.List.{AllByRecursion, prefix_len}
use Rattle.pg_term.specs.declared.term.Term.{Term}
use Rattle.pg_term.specs.Depth.{depth}
use Rattle.pg_text.specs.Reading.{begins, term_at}
use Rattle.pg_text.specs.Writing.{term_text, is_word_byte}

-- a text that no letter, digit, `_` or `@` begins
abbrev pub NoWord : List ℕ → Type 0
NoWord text = prefix_len is_word_byte text ≡ 0

-- This text is read as the term, wherever that does not nest too deep and no character of a word follows; it is not empty, and no
-- closing bracket begins it.
pub record ReadsAs (t : Term) (text : List ℕ) : Type 0 where
  pub back : (room : ℕ) (rest : List ℕ) → depth t ≤ room → NoWord rest → term_at room (text ++ rest) ≡ Some (t, rest)
  pub square : (rest : List ℕ) → begins 93 (text ++ rest) ≡ false
  pub curly : (rest : List ℕ) → begins 125 (text ++ rest) ≡ false
  pub some : 1 ≤ length text

-- what is written of the term is read as it
abbrev pub ReadsBack : Term → Type 0
ReadsBack t = ReadsAs t (term_text t)

abbrev pub ReadBack : List Term → Type 0
ReadBack ts = AllByRecursion ReadsBack ts
