-- The generators of the pauses of nodes, out of one seed.
use Rattle.std.specs.Prelude.{◌≡◌, ℕ, ◌+◌, ◌%◌, ◌^◌, ◌<◌, List, get_or, length}
use Rattle.rand_pcg.specs.Lcg.{Lcg, started, increment_of}
use Rattle.rand_pcg.specs.Pcg.{multiplier_64}

-- that of the node at a place: its seed is one more than that of the place before, and wraps
abbrev pub generator_at : ℕ → ℕ → Lcg
generator_at seed place = started 64 multiplier_64 ((seed + place) % 2 ^ 64) (increment_of 64 2)

abbrev pub AreSeeded : ℕ → List Lcg → Type 0
AreSeeded seed generators = (place : ℕ) (none : Lcg) → place < length generators → get_or generators place none ≡ generator_at seed place
