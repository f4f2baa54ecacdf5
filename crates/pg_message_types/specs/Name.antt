-- What may name a group. This limit is this project's own; pg2 takes any term.
use Rattle.std.specs.Prelude.{Bool, length, nat_le, ◌&&◌}
use Rattle.pg_term.specs.declared.term.Term.{Term}
use Rattle.pg_term.specs.Depth.{depth}
use Rattle.pg_term_io.specs.Writing.{written}
use Rattle.pg_message_types.specs.Limits.{max_name_len, max_name_depth}

-- it nests at most 32 levels deep, and takes at most 1,024 bytes as it is written
abbrev pub is_name : Term → Bool
is_name t = nat_le (depth t) max_name_depth && nat_le (length (written t)) max_name_len
