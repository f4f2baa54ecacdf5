-- The bytes of an atom's text.
use Rattle.std.specs.Prelude.{ℕ, List, string_bytes}
use Rattle.pg_term.specs.declared.text.Text.{Text}
use Rattle.pg_term.specs.declared.text.Text.TheVariants.{Here, There}

abbrev pub text_bytes : Text → List ℕ
text_bytes (Here short) = short
text_bytes (There long) = string_bytes long.value
