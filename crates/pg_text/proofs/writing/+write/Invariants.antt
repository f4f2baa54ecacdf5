use Rattle.std.proofs.Common.{take, string_bytes}
use Rattle.pg_text.specs.Again.{ReadBack}
use Rattle.pg_text.specs.Writing.{GrowsBy, terms_text}
use Rattle.pg_text.proofs.writing.+write.Given as goal

-- the terms so far stand there
abbrev pub invariant-write_all-loop-at : goal.invariant-write_all-loop-at
invariant-write_all-loop-at l = GrowsBy (terms_text (take l.at l.terms)) (string_bytes l.initial.out) (string_bytes l.out) × ReadBack (take l.at l.terms)
