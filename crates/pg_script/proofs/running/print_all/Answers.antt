use Rattle.std.proofs.Common.{◌++◌, take, add-one, sym}
use Rattle.pg_script_trace.specs.PgScriptLines.Printing.{answer_line}
use Rattle.pg_script.specs.Runs.{answer_lines}
use Rattle.pg_script_trace.proofs.PgScriptLines.Adds.{adds_both, adds_as, more_at}
use Rattle.pg_script.proofs.running.print_all.Goals as goal

pub loop-answer-preserved : goal.loop-answer-preserved
loop-answer-preserved c =
    adds_as (answer_lines c.args.node.now (take c.loop-answer.answer-index c.args.answers.now) ++ answer_line c.args.node.now c.answer-item.result) _
    (adds_both (answer_lines c.args.node.now (take c.loop-answer.answer-index c.args.answers.now)) (answer_line c.args.node.now c.answer-item.result) c.loop-answer.invariant c.in_ok-print_answer.ensures)
    (rw add-one (sym (more_at (answer_line c.args.node.now) c.args.answers.now c.loop-answer.answer-index c.answer-item.result c.loop-answer-test.true c.answer-item.is)))
