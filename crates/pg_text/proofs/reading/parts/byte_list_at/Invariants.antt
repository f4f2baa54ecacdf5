use Rattle.std.proofs.Common.{length, ◌≤◌}
use denote.Text.{Utf8}
use denote.Shadow.{shadow}
use Rattle.std.specs.Str.{chars}
use Rattle.pg_text.proofs.Fronts.{Goes}
use Rattle.pg_text.specs.Reading.{numeral_at}
use Rattle.pg_text.proofs.reading.parts.byte_list_at.Given as goal

abbrev pub invariant-loop-bytes : goal.invariant-loop-bytes
invariant-loop-bytes l = shadow (Utf8 l.rest) × Goes (numeral_at 255) 62 (chars l.text) l.bytes.items (chars l.rest) × (length (chars l.rest) ≤ length (chars l.text))

abbrev pub decreases-loop-bytes : goal.decreases-loop-bytes
decreases-loop-bytes l = length (chars l.rest)
