-- How large a term may be. These limits are this project's own.
use Rattle.std.specs.Prelude.{ℕ}

-- how many levels of terms may nest
abbrev pub max_depth : ℕ
max_depth = 64

-- how many bytes a term may take, with the byte 131
abbrev pub max_len : ℕ
max_len = 16777216
