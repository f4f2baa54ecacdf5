use Rattle.std.proofs.Common.{take, string_bytes}
use Rattle.std.specs.List.{flat_map}
use Rattle.pg_text.specs.Writing.{GrowsBy, part_text}
use Rattle.pg_text.proofs.writing.write_words.Given as goal

abbrev pub invariant-loop-word : goal.invariant-loop-word
invariant-loop-word l = GrowsBy (flat_map (part_text 46) (take l.word-index l.words)) (string_bytes l.initial.out) (string_bytes l.out)
