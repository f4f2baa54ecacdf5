-- Lists of numbers that are at most those of another.
use Rattle.std.specs.Prelude.{◌≡◌, ◌⊎◌, ◌↔◌, ◌≤◌, ◌<◌, ℕ, length, get_or, List, [], ◌∷◌, ◌++◌}
use Rattle.std.specs.List.{Contains}

-- as many numbers, none of them above the one at its place
pub record IsUpTo (lens keep : List ℕ) : Type 0 where
  pub len : length keep ≡ length lens
  pub fits : (place : ℕ) → place < length lens → get_or keep place 0 ≤ get_or lens place 0

-- all such lists, and no others
abbrev pub AreUpTo : List ℕ → List (List ℕ) → Type 0
AreUpTo lens keeps = (keep : List ℕ) → Contains keeps keep ↔ IsUpTo lens keep

-- a list with a number behind it that is at most this one
pub record IsLonger (most : ℕ) (keep more : List ℕ) : Type 0 where
  pub count : ℕ
  pub fits : count ≤ most
  pub is : more ≡ keep ++ count ∷ []

-- one of some lists with such a number behind it
pub record IsOneLonger (most : ℕ) (keeps : List (List ℕ)) (more : List ℕ) : Type 0 where
  pub keep : List ℕ
  pub among : Contains keeps keep
  pub longer : IsLonger most keep more

-- each of them, and no others
abbrev pub AreLonger : ℕ → List (List ℕ) → List (List ℕ) → Type 0
AreLonger most keeps all = (more : List ℕ) → Contains all more ↔ IsOneLonger most keeps more

-- those of one list are added, and no others
abbrev pub AddsLonger : ℕ → List ℕ → List (List ℕ) → List (List ℕ) → Type 0
AddsLonger most keep old new = (more : List ℕ) → Contains new more ↔ (Contains old more ⊎ IsLonger most keep more)
