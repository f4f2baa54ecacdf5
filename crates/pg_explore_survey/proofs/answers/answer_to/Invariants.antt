use Rattle.std.proofs.Common.{◌≡◌, drop}
use Rattle.pg_explore_survey.specs.Texts.{answer_to}
use Rattle.pg_explore_survey.proofs.answers.answer_to.Given as goal

-- none of the first is it
abbrev pub invariant-loop-answer : goal.invariant-loop-answer
invariant-loop-answer l = answer_to l.place (drop l.answer-index l.answers) ≡ answer_to l.place l.answers
