use Rattle.std.proofs.Common.{◌≡◌, ◌++◌, take, map}
use Rattle.pg_term_io.specs.Numbers.{int_of}
use Rattle.pg_term_io.proofs.reading.items.push_bytes.Given as goal

abbrev pub invariant-loop-byte : goal.invariant-loop-byte
invariant-loop-byte l = l.terms.items ≡ l.fn.terms.items ++ map int_of (take l.byte-index l.bytes)
