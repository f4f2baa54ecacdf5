-- How many processes a node may make. This limit is this project's own.
use Rattle.std.specs.Prelude.{ℕ}

-- the most processes of a node
abbrev pub max_processes : ℕ
max_processes = 268435455
