use Rattle.std.proofs.Common.{length}
use denote.Text.{Utf8}
use denote.Shadow.{shadow}
use Rattle.std.specs.Str.{chars}
use Rattle.pg_text.proofs.Words.{Passes}
use Rattle.pg_text.proofs.reading.atoms.word_of.Given as goal

-- characters of a bare atom alone were passed by
abbrev pub invariant-loop-follows : goal.invariant-loop-follows
invariant-loop-follows l = shadow (Utf8 l.rest) × Passes l.text l.rest

abbrev pub decreases-loop-follows : goal.decreases-loop-follows
decreases-loop-follows l = length (chars l.rest)
