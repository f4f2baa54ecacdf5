-- How large a frame may be. This limit is this project's own.
use Rattle.std.specs.Prelude.{ℕ}

-- how many bytes the body of a frame may take
abbrev pub max_body : ℕ
max_body = 16777216
