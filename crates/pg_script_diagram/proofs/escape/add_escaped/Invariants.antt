use Rattle.std.proofs.Common.{take, length, string_bytes}
use Rattle.std.specs.List.{flat_map}
use Rattle.std.specs.Str.{chars}
use Rattle.pg_script_diagram.specs.Escaping.{GrowsBy, escaped_char}
use Rattle.pg_script_diagram.proofs.escape.add_escaped.Given as goal

-- the characters so far stand there
abbrev pub invariant-loop-character : goal.invariant-loop-character
invariant-loop-character l = GrowsBy (flat_map escaped_char (take (length l.yielded) (chars l.text))) (string_bytes l.initial.out) (string_bytes l.out)
