use Rattle.std.proofs.Common.{ap, sym, ◌∙◌}
use Rattle.pg_step.specs.SameAnswers.{same_reply, same_answer}
use Rattle.pg_step.proofs.Replies.{reply_is, reply_self, answer_is, answer_self}
use Rattle.pg_step.proofs.answer.equal_answers.Goals as goal

pub returns-clause-replies : goal.returns-clause-replies
returns-clause-replies c = λ x y. (reply_is x y, λ e. ap (same_reply x) (sym e) ∙ reply_self x)

pub returns-clause-answers : goal.returns-clause-answers
returns-clause-answers c = λ x y. (answer_is x y, λ e. ap (same_answer x) (sym e) ∙ answer_self x)
