use Rattle.std.proofs.Common.{◌≡◌, take}
use Rattle.pg_node_ports.proofs.copies.copy_answers.Given as goal

-- the answers so far
abbrev pub invariant-loop-answer : goal.invariant-loop-answer
invariant-loop-answer l = l.copies.items ≡ take l.answer-index l.answers
