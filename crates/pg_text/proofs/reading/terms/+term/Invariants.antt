use Rattle.std.proofs.Common.{length, ◌≤◌, ◌+◌, ◌*◌}
use denote.Text.{Utf8}
use denote.Shadow.{shadow}
use Rattle.std.specs.Str.{chars}
use Rattle.pg_text.proofs.Fronts.{Goes}
use Rattle.pg_text.specs.Reading.{term_at}
use Rattle.pg_text.proofs.reading.terms.+term.Given as goal

abbrev pub decreases-elements_at : goal.decreases-elements_at
decreases-elements_at l = 2 * l.room + 1

abbrev pub decreases-term_at : goal.decreases-term_at
decreases-term_at l = 2 * l.room

abbrev pub invariant-elements_at-loop-elements : goal.invariant-elements_at-loop-elements
invariant-elements_at-loop-elements l = shadow (Utf8 l.rest) × Goes (term_at l.room) l.last (chars l.text) l.elements.items (chars l.rest) × (length (chars l.rest) ≤ length (chars l.text))

abbrev pub decreases-elements_at-loop-elements : goal.decreases-elements_at-loop-elements
decreases-elements_at-loop-elements l = length (chars l.rest)
