use Rattle.std.proofs.Common.{◌≡◌, ◌+◌, ◌++◌, ◌∷◌, length}
use Rattle.pg_term_io.specs.Writing.{digits}
use Rattle.pg_term_io.proofs.writer.writing.put_big.Given as goal

abbrev pub invariant-loop-rest : goal.invariant-loop-rest
invariant-loop-rest l =
    (l.out.items ++ digits l.rest ≡ l.fn.out.items ++ (110 ∷ length (digits l.magnitude) ∷ l.sign ∷ digits l.magnitude))
    × (l.out.spare + 3 + length (digits l.magnitude) ≡ l.fn.out.spare + length (digits l.rest))

abbrev pub decreases-loop-rest : goal.decreases-loop-rest
decreases-loop-rest l = l.rest
