use Rattle.std.proofs.Common.{take, string_bytes, decimal}
use Rattle.pg_text.specs.Writing.{GrowsBy, more_text}
use Rattle.pg_text.proofs.writing.write_more_bytes.Given as goal

abbrev pub invariant-loop-byte : goal.invariant-loop-byte
invariant-loop-byte l = GrowsBy (more_text decimal (take l.byte-index l.bytes)) (string_bytes l.initial.out) (string_bytes l.out)
