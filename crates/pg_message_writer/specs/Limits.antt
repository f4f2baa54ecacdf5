-- How many bytes packets take.
use Rattle.std.specs.Prelude.{ℕ}

-- the most bytes of a body that is no exchange
abbrev pub max_small_len : ℕ
max_small_len = 3126
