use Rattle.std.proofs.Common.{◌≡◌, ◌<◌, ◌^◌, drop}
use Rattle.pg_term_io.specs.Numbers.{little_endian}
use Rattle.pg_message_reader.proofs.shape.leaves.magnitude.Given as goal

abbrev pub invariant-loop-place : goal.invariant-loop-place
invariant-loop-place l = (l.number ≡ little_endian (drop l.place l.digits)) × (l.number < 2 ^ 64)
