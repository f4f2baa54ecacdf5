-- What `==` computes of replies and of answers.
use Rattle.std.specs.Prelude.{Bool}
use Rattle.pg_step.specs.declared.answer.Answer.{Answer}
use Rattle.pg_step.specs.declared.answer.Reply.{Reply}
use Rattle.pg_step.specs.contracts.answer.AnswerPartialEq.TheImpl.{ghosts as equal_answers}
use Rattle.pg_step.specs.contracts.answer.ReplyPartialEq.TheImpl.{ghosts as equal_replies}

-- whether two replies are one, as `==` tells
abbrev pub same_reply : Reply → Reply → Bool
same_reply = equal_replies.eq

-- the same of answers
abbrev pub same_answer : Answer → Answer → Bool
same_answer = equal_answers.eq
