-- Sets of places as the bits of one word.
use Rattle.std.proofs.Common.{◌≡◌, ℕ, ◌-◌, ◌*◌, ◌%◌, ◌^◌, ◌<◌, ◌≤◌, min, true, not, ◌&&◌}
use Rattle.std.proofs.Common.{◌||◌, nat_eq, bit_and, bit_or, w16, inl, inr, ap, ◌∙◌, arith}
use Rattle.std.specs.Int.{bit_at}
use Rattle.std.proofs.lemmas.Bool.{cases_lt}
use Rattle.std.proofs.lemmas.Bool.Decides.{nat_tests}
use Rattle.pg_multicall.specs.Places.{is_set}
use Rattle.std.proofs.lemmas.Nat.Bits.{bit_at_set_same, bit_at_set_other, bit_at_clear_same, bit_at_clear_other}
use Rattle.std.proofs.lemmas.Nat.Bits.{bit_at_and, bit_at_not, bit_at_above, bit_at-lt, same_from_bits, bit_at-zero}

module _ (bits place : ℕ) (within : place < 16) where
  pub has_with : (other : ℕ) → is_set (bit_or bits (1 * 2 ^ place % 65536)) other ≡ (nat_eq place other || is_set bits other)
  has_with other = grind (arith, nat_tests, bit_at_set_same w16 bits place within, bit_at_set_other w16 bits place within other)

  pub has_without : (other : ℕ) → is_set (bit_and bits (65535 - 1 * 2 ^ place % 65536)) other ≡ (not (nat_eq place other) && is_set bits other)
  has_without other = grind (arith, nat_tests, bit_at_clear_same w16 bits place within, bit_at_clear_other w16 bits place within other)

pub past_all : (bits place other : ℕ) → 16 ≤ place → is_set bits other ≡ (not (nat_eq place other) && is_set bits other)
past_all bits place other past = grind (arith, nat_tests, past)

module _ (one other : ℕ) (small : other < 65536) where
  -- what is in the one and not in the other
  left_bit : (place : ℕ) → place < 16 → bit_at (bit_and one (65535 - other)) place ≡ min (bit_at one place) (1 - bit_at other place)
  left_bit place within = bit_at_and one (65535 - other) place ∙ ap (min (bit_at one place)) (bit_at_not w16 other place small within)

  pub none_left : bit_and one (65535 - other) ≡ 0 → (place : ℕ) → is_set one place ≡ true → is_set other place ≡ true
  none_left none place has = grind (arith, nat_tests, left_bit place, ap (λ bits. bit_at bits place) none, bit_at-zero place, bit_at-lt other place, bit_at-lt one place, has)

  pub all_there : ((place : ℕ) → is_set one place ≡ true → is_set other place ≡ true) → bit_and one (65535 - other) ≡ 0
  all_there within = same_from_bits (bit_and one (65535 - other)) 0 (λ place. elim (cases_lt place 16) [
    | inl below ↦ grind (arith, nat_tests, below, left_bit place below, bit_at-zero place, within place, bit_at-lt one place, bit_at-lt other place)
    | inr past ↦ bit_at_and one (65535 - other) place ∙ ap (min (bit_at one place)) (bit_at_above (65535 - other) 16 place (omega arith) past) ∙ omega (arith, bit_at-zero place)
  ])
