-- Atoms where they stand.
use Rattle.std.specs.Prelude.{◌≡◌, ◌≢◌, ℕ, List, Ok}
use Rattle.std.specs.Str.{chars}
use Rattle.pg_term.specs.declared.term.Term.{Term}
use Rattle.pg_term.specs.Order.{kind_of}
use Rattle.pg_message_types.specs.PgTermIo.Reading.{item_at}
use Rattle.pg_message_reader.specs.declared.shape.leaves.Text.{Text}
use Rattle.pg_message_reader.specs.declared.shape.leaves.Text.TheVariants.{Utf8, Latin}
use Rattle.pg_message_reader.specs.declared.shape.groups.names.Name.{Name}
use Rattle.pg_message_reader.specs.declared.shape.groups.names.Name.TheVariants.{Atom, Built}

-- the characters of a text
abbrev pub characters : Text → List ℕ
characters (Utf8 text) = chars text.now
characters (Latin text) = chars text.bytes

-- an atom that stands at the front of the bytes
pub record AtomStands (bytes : List ℕ) (t : Term) : Type 0 where
  pub room : ℕ
  pub rest : List ℕ
  pub here : item_at room bytes ≡ Ok (t, rest)
  pub atom : kind_of t ≡ 1

-- a name that was walked over is this term
abbrev pub Names : Name → Term → Type 0
Names (Atom bytes) t = AtomStands bytes.now t
Names (Built name) t = (name ≡ t) × (kind_of t ≢ 1)
