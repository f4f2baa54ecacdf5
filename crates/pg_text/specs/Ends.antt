-- Where a value ends that is read, whatever the value is.
use Rattle.std.specs.Prelude.{◌≡◌, List, ℕ, length, Option, Some, None, if◌then◌else◌}
use Rattle.pg_text.specs.declared.reading.ends.Seen.{Seen}
use Rattle.pg_text.specs.Reading.{Read, begins, words_at}
use Rattle.pg_text.specs.Writing.{needs_no_quotes}

-- what follows the value; nothing where there is none
abbrev pub past : {A : Type 0} → Read A → Option (List ℕ)
past None = None
past (Some x) = Some x.1

-- what follows the words of a reference, of which there is at least one
abbrev pub words_past : List ℕ → Option (List ℕ)
words_past text = if begins 46 text then past (words_at 3 text) else None

-- what is known of characters that were not kept: how many they are, and whether they stand bare
pub record IsSeen (characters : List ℕ) (seen : Seen) : Type 0 where
  pub count : seen.count ≡ length characters
  pub bare : seen.bare ≡ needs_no_quotes characters
