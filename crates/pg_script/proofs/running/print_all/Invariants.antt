use Rattle.std.proofs.Common.{take}
use Rattle.std.specs.Prelude.{string_bytes}
use Rattle.pg_script_trace.specs.PgText.Writing.{GrowsBy}
use Rattle.pg_script.specs.Runs.{answer_lines}
use Rattle.pg_script.proofs.running.print_all.Given as goal

abbrev pub invariant-loop-answer : goal.invariant-loop-answer
invariant-loop-answer l = GrowsBy (answer_lines l.node (take l.answer-index l.answers)) (string_bytes l.initial.out) (string_bytes l.out)
