use Rattle.std.proofs.Common.{length, ◌≤◌}
use denote.Text.{Utf8}
use denote.Shadow.{shadow}
use Rattle.std.specs.Str.{chars}
use Rattle.pg_text.specs.Reading.{numeral_at}
use Rattle.pg_text.proofs.Passing.{Passed}
use Rattle.pg_text.proofs.reading.ends.byte_list_end.Given as goal

abbrev pub invariant-loop-follows : goal.invariant-loop-follows
invariant-loop-follows l = shadow (Utf8 l.rest) × Passed (numeral_at 255) 62 (chars l.text) (chars l.rest) × (length (chars l.rest) ≤ length (chars l.text))

abbrev pub decreases-loop-follows : goal.decreases-loop-follows
decreases-loop-follows l = length (chars l.rest)
