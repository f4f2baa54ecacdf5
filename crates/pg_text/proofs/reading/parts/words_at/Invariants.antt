use Rattle.std.proofs.Common.{◌-◌, ◌≤◌, length, vec_len}
use denote.Text.{Utf8}
use denote.Shadow.{shadow}
use Rattle.std.specs.Str.{chars}
use Rattle.pg_text.proofs.Fronts.{WordsGo}
use Rattle.pg_text.proofs.reading.parts.words_at.Given as goal

abbrev pub invariant-loop : goal.invariant-loop
invariant-loop l = shadow (Utf8 l.rest) × WordsGo (3 - l.counter) (chars l.text) l.words.items (chars l.rest) × (vec_len l.words ≤ l.counter) × (l.counter ≤ 3) × (length (chars l.rest) ≤ length (chars l.text))
