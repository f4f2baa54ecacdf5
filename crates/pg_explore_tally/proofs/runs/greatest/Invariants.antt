use Rattle.std.proofs.Common.{◌<◌, ◌≤◌, ℕ, length}
use Rattle.pg_explore_tally.specs.Runs.{len_at}
use Rattle.pg_explore_tally.proofs.runs.greatest.Given as goal

-- none of the first so many is longer
pub record Found (place found count : ℕ) (at : ℕ → ℕ) : Type 0 where
  pub within : found < count
  pub most : (p : ℕ) → p < place → at p ≤ at found

abbrev pub invariant-loop-place : goal.invariant-loop-place
invariant-loop-place l = (0 < length l.streaks → l.found < length l.streaks) × ((p : ℕ) → p < l.place → len_at l.streaks p ≤ len_at l.streaks l.found)
