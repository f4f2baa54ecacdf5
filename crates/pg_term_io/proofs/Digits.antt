-- The number of some digits, from the most significant down.
use Rattle.std.proofs.Common.{◌≡◌, ℕ, zero, suc, ◌+◌, ◌-◌, ◌*◌, ◌<◌, ◌≤◌, List}
use Rattle.std.proofs.Common.{[], ◌∷◌, length, drop, get_or, refl, arith}
use Rattle.std.proofs.Math.Seq.{drop-length}
use Rattle.pg_term_io.specs.Numbers.{little_endian}

-- one more digit below
pub little_endian-drop : (ds : List ℕ) (i : ℕ) → i < length ds → little_endian (drop i ds) ≡ get_or ds i 0 + 256 * little_endian (drop (i + 1) ds)
unfolding little_endian
little_endian-drop [] i h = absurd (omega arith)
little_endian-drop (d ∷ ds) zero h = refl
little_endian-drop (d ∷ ds) (suc i) h = let next : suc i + 1 ≡ suc (i + 1) = omega arith in rw next (little_endian-drop ds i (omega arith))

-- the digits from a place on are no greater number
pub little_endian_le : (ds : List ℕ) (i : ℕ) → little_endian (drop i ds) ≤ little_endian ds
unfolding little_endian
little_endian_le [] zero = omega arith
little_endian_le [] (suc i) = omega arith
little_endian_le (d ∷ ds) zero = omega arith
little_endian_le (d ∷ ds) (suc i) = omega (arith, little_endian_le ds i)

pub no_digits : (ds : List ℕ) → 0 ≡ little_endian (drop (length ds) ds)
unfolding little_endian
no_digits ds = rw (drop-length ds) refl

-- what the digits from p on are, and the digit before them
pub next_digit : (ds : List ℕ) (p number : ℕ) → 0 < p → p ≤ length ds → number ≡ little_endian (drop p ds) → number * 256 + get_or ds (p - 1) 0 ≡ little_endian (drop (p - 1) ds)
next_digit ds p number some fits is =
    let back : p - 1 + 1 ≡ p = omega arith in
    let step : little_endian (drop (p - 1) ds) ≡ get_or ds (p - 1) 0 + 256 * little_endian (drop p ds) = rw back at (little_endian-drop ds (p - 1) (omega arith)) in
    omega arith
