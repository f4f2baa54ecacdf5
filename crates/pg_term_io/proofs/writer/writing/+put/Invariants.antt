use Rattle.std.proofs.Common.{◌≡◌, ◌+◌, ◌++◌, length, take}
use Rattle.pg_term_io.specs.Writing.{all_bytes, AreSpelled}
use Rattle.pg_term_io.proofs.writer.writing.+put.Given as goal

abbrev pub invariant-put_all-loop-term : goal.invariant-put_all-loop-term
invariant-put_all-loop-term l =
    (l.out.items ≡ l.fn.out.items ++ all_bytes (take l.term-index l.others))
    × (l.out.spare + length (all_bytes (take l.term-index l.others)) ≡ l.fn.out.spare)
    × AreSpelled (take l.term-index l.others)
