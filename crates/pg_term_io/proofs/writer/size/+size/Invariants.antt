use Rattle.std.proofs.Common.{◌≡◌, ◌≤◌, length, min, take}
use Rattle.pg_term.specs.Depth.{greatest_depth}
use Rattle.pg_term_io.specs.Writing.{all_bytes}
use Rattle.pg_term_io.proofs.writer.size.+size.Given as goal

abbrev pub invariant-all_len-loop-term : goal.invariant-all_len-loop-term
invariant-all_len-loop-term l =
    (l.len ≡ min (length (all_bytes (take l.term-index l.terms))) 18446744073709551615)
    × (greatest_depth (take l.term-index l.terms) ≤ l.room)
