use Rattle.std.proofs.Common.{◌≡◌, ◌+◌, drop}
use Rattle.pg_script_lines.specs.declared.words.Stand.TheVariants.{Bare}
use Rattle.pg_script_lines.specs.Words.{word_len}
use Rattle.pg_script_lines.proofs.words.word_len.Given as goal

abbrev pub invariant-loop-place : goal.invariant-loop-place
invariant-loop-place l = word_len Bare l.line ≡ l.place + word_len l.stand (drop l.place l.line)
