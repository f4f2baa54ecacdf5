use Rattle.std.proofs.Common.{arith}
use Rattle.pg_script.proofs.Walking.{few_lines}
use Rattle.pg_explore_survey.proofs.forms.other_line.Goals as goal

pub overflow_add-number : goal.overflow_add-number
overflow_add-number c = omega (arith, few_lines c.args.text.now, c.loop-rest.invariant.count)
