use Rattle.std.proofs.Common.{length, ◌≤◌, ◌-◌}
use denote.Text.{Utf8}
use denote.Shadow.{shadow}
use Rattle.std.specs.Str.{chars}
use Rattle.pg_text.proofs.Passing.{WordsPast}
use Rattle.pg_text.proofs.reading.ends.words_end.Given as goal

abbrev pub invariant-loop : goal.invariant-loop
invariant-loop l = shadow (Utf8 l.rest) × WordsPast (3 - l.counter) (chars l.text) (chars l.rest) × (l.counter ≤ 3) × (length (chars l.rest) ≤ length (chars l.text))
