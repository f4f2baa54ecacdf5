-- What a clause sees of a `Deframer`.
use Rattle.std.specs.Prelude.{ℕ, ◌+◌, ◌<◌, ◌≤◌, List, refl, Result, MatchResult}
use Rattle.std.specs.Coded.{Coded, code_by, coded×, coded_list, coded_ℕ}

-- the bytes that no frame was taken of, and how many more it takes with no allocation
pub record Buffered : Type 0 where
  pub unread : List ℕ
  pub room : ℕ

-- it is stored as the pair of its fields
abbrev pub buffered_code : Coded Buffered
buffered_code =
    code_by (List ℕ × ℕ) (coded× (coded_list coded_ℕ) coded_ℕ) (λ b. (b.unread, b.room)) (λ p. record { unread = p.0; room = p.1 }) (λ _. refl)

-- a piece of n bytes takes at most n of the room, and is refused only where that room was missing; then the room stays or grows
abbrev pub UsesRoom : {T E : Type 0} → Result T E → ℕ → ℕ → ℕ → Type 0
UsesRoom r old new n = MatchResult r (λ _. old ≤ new + n) (λ _. (old < n) × (old ≤ new))

-- there is room for n bytes on success, the room never shrinks, and it fails only where that room was missing
abbrev pub MakesRoom : {T E : Type 0} → Result T E → ℕ → ℕ → ℕ → Type 0
MakesRoom r old new n = (old ≤ new) × MatchResult r (λ _. n ≤ new) (λ _. old < n)
