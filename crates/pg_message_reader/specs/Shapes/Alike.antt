-- How a pid begins that is spelled as it is written.
use Rattle.std.specs.Prelude.{◌≡◌, ℕ, List, ◌∷◌, ◌++◌, length}

-- the tag of a pid, and its node: the tag of an atom, how many bytes its text has, and these
pub record Heads (head bytes : List ℕ) : Type 0 where
  pub text : List ℕ
  pub numbers : List ℕ
  pub is : head ≡ 88 ∷ 119 ∷ length text ∷ text
  pub first : bytes ≡ 88 ∷ 119 ∷ length text ∷ (text ++ numbers)
