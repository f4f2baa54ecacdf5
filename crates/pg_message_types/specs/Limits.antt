-- How large what is said may be. These limits are this project's own.
use Rattle.std.specs.Prelude.{ℕ}

-- how many bytes a name may take as it is written
abbrev pub max_name_len : ℕ
max_name_len = 1024

-- how deep a name may nest
abbrev pub max_name_depth : ℕ
max_name_depth = 32

-- the greatest clock of a node, and so the greatest stamp
abbrev pub max_stamp : ℕ
max_stamp = 1073741824
