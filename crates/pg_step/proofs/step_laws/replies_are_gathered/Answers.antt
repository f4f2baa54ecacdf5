use Rattle.pg_step.proofs.Judging.{answer_gathered, ok_gathered}
use Rattle.pg_step.proofs.step_laws.replies_are_gathered.Goals as goal

pub returns-clause-answers : goal.returns-clause-answers
returns-clause-answers c = answer_gathered

pub returns-clause-oks : goal.returns-clause-oks
returns-clause-oks c = ok_gathered
