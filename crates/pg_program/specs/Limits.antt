-- How large a script may be. This limit is this project's own.
use Rattle.std.specs.Prelude.{ℕ}

-- how many bytes a script has at most
abbrev pub max_script_len : ℕ
max_script_len = 16777216
