-- How much room a ring may have, in bytes or in values.
use Rattle.std.specs.Prelude.{ℕ, ◌<◌, ◌≤◌, ◌⊎◌}

-- 1 to 65,536
abbrev pub IsCapacity : ℕ → Type 0
IsCapacity cap = (1 ≤ cap) × (cap ≤ 65536)

-- none at all, or more than that
abbrev pub IsBadCapacity : ℕ → Type 0
IsBadCapacity cap = (cap < 1) ⊎ (65536 < cap)
