-- The references of a node, by their numbers.
use Rattle.std.specs.Prelude.{ℕ, ◌+◌, ◌*◌, ◌/◌, ◌%◌, List, [], ◌∷◌, refl}
use Rattle.std.specs.Coded.{Coded, code_by, coded×, coded_list, coded_ℕ}
use Rattle.pg_term.specs.RefParts.{RefParts}

-- a node, and how many references it made
pub record Made : Type 0 where
  pub node : List ℕ
  pub made : ℕ

-- it is stored as the pair of its fields
abbrev pub made_code : Coded Made
made_code = code_by (List ℕ × ℕ) (coded× (coded_list coded_ℕ) coded_ℕ) (λ m. (m.node, m.made)) (λ p. record { node = p.0; made = p.1 }) (λ _. refl)

-- the words of reference number c: c mod 2^18, c div 2^18 and 0
abbrev pub words_in : ℕ → List ℕ
words_in c = c % 262144 ∷ c / 262144 ∷ 0 ∷ []

-- reference number c: creation 1, and these words
abbrev pub numbered : List ℕ → ℕ → RefParts
numbered node c = record { node = node; creation = 1; words = words_in c }

-- the number that the words of a reference tell
abbrev pub number_of_words : List ℕ → ℕ
number_of_words (low ∷ high ∷ others) = low + 262144 * high
number_of_words words = 0

abbrev pub number_in : RefParts → ℕ
number_in reference = number_of_words reference.words
