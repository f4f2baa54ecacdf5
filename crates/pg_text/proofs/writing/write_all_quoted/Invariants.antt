use Rattle.std.proofs.Common.{take, length, string_bytes}
use Rattle.std.specs.List.{flat_map}
use Rattle.std.specs.Str.{chars}
use Rattle.pg_text.specs.Writing.{GrowsBy, quoted_text}
use Rattle.pg_text.proofs.writing.write_all_quoted.Given as goal

-- the characters so far stand there
abbrev pub invariant-loop-character : goal.invariant-loop-character
invariant-loop-character l = GrowsBy (flat_map quoted_text (take (length l.yielded) (chars l.text))) (string_bytes l.initial.out) (string_bytes l.out)
