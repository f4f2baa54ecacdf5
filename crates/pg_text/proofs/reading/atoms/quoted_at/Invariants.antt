use Rattle.std.proofs.Common.{◌≡◌, ◌≤◌, length, string_bytes}
use denote.Text.{Utf8}
use denote.Shadow.{shadow}
use Rattle.std.specs.Str.{chars}
use Rattle.pg_text.specs.Reading.{quoted_at, with_front}
use Rattle.pg_text.specs.declared.reading.quoted.Place.TheVariants.{Plain}
use Rattle.pg_text.proofs.reading.atoms.quoted_at.Given as goal

-- what is read are the characters so far, and then what is read of the rest
abbrev pub invariant-loop-character : goal.invariant-loop-character
invariant-loop-character l = shadow (Utf8 l.rest) × (quoted_at (chars l.text) Plain ≡ with_front (chars (string_bytes l.name)) (quoted_at (chars l.rest) l.place)) × (length (chars l.rest) ≤ length (chars l.text))

abbrev pub decreases-loop-character : goal.decreases-loop-character
decreases-loop-character l = length (chars l.rest)
