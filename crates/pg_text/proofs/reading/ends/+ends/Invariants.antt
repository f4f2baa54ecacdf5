use Rattle.std.proofs.Common.{length, ◌≤◌, ◌+◌, ◌*◌}
use denote.Text.{Utf8}
use denote.Shadow.{shadow}
use Rattle.std.specs.Str.{chars}
use Rattle.pg_text.specs.Reading.{term_at}
use Rattle.pg_text.proofs.Passing.{Passed}
use Rattle.pg_text.proofs.reading.ends.+ends.Given as goal

abbrev pub decreases-elements_end : goal.decreases-elements_end
decreases-elements_end l = 2 * l.room + 1

abbrev pub decreases-term_end : goal.decreases-term_end
decreases-term_end l = 2 * l.room

abbrev pub invariant-elements_end-loop-follows : goal.invariant-elements_end-loop-follows
invariant-elements_end-loop-follows l = shadow (Utf8 l.rest) × Passed (term_at l.room) l.last (chars l.text) (chars l.rest) × (length (chars l.rest) ≤ length (chars l.text))

abbrev pub decreases-elements_end-loop-follows : goal.decreases-elements_end-loop-follows
decreases-elements_end-loop-follows l = length (chars l.rest)
