use Rattle.std.proofs.Common.{◌≡◌, ◌<◌, ◌≤◌, length}
use denote.Text.{Utf8}
use denote.Shadow.{shadow}
use Rattle.std.specs.Str.{chars}
use Rattle.pg_text.specs.Reading.{numeral_at}
use Rattle.pg_text.proofs.Numerals.{value_at}
use Rattle.pg_text.proofs.reading.numerals.numeral_at.Given as goal

-- what is read is what the digits that are left make of the number so far
abbrev pub invariant-loop-digit : goal.invariant-loop-digit
invariant-loop-digit l = shadow (Utf8 l.rest) × (numeral_at l.most (chars l.text) ≡ value_at l.most l.value (chars l.rest)) × (l.value ≤ l.most) × (length (chars l.rest) < length (chars l.text))

abbrev pub decreases-loop-digit : goal.decreases-loop-digit
decreases-loop-digit l = length (chars l.rest)
