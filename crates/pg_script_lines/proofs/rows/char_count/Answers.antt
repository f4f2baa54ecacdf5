use Rattle.std.proofs.Common.{◌≡◌, length, rules}
use Rattle.std.specs.Str.{chars}
use Rattle.std.proofs.lemmas.Str.{chars_from_encodes}
use Rattle.pg_script_lines.proofs.rows.char_count.Goals as goal

pub returns : goal.returns
returns c = search (rules, chars_from_encodes)
