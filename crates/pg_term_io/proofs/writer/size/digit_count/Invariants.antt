use Rattle.std.proofs.Common.{◌≡◌, ◌+◌, length}
use Rattle.pg_term_io.specs.Writing.{digits}
use Rattle.pg_term_io.proofs.writer.size.digit_count.Given as goal

abbrev pub invariant-loop-rest : goal.invariant-loop-rest
invariant-loop-rest l = l.count + length (digits l.rest) ≡ length (digits l.number)

abbrev pub decreases-loop-rest : goal.decreases-loop-rest
decreases-loop-rest l = l.rest
