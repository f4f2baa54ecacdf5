use Rattle.std.proofs.Common.{◌∙◌, sym}
use Rattle.pg_process.proofs.Chained.{handed, handed_until, itself, works_on, works_until}
use Rattle.pg_process.proofs.Turning.{hands_none, hands_one}
use Rattle.pg_process.proofs.process.Process.hand_over_one.Goals as goal

pub returns-in-Ok-false-clause-works : goal.returns-in-Ok-false-clause-works
returns-in-Ok-false-clause-works c = handed c.args.port c.in-Ok-false.field-0 c.args.self.now c.hand_over.new.self c.in-Ok-false.ensures.made

pub returns-in-Err-clause-until : goal.returns-in-Err-clause-until
returns-in-Err-clause-until c = handed_until c.args.port c.in-Err.fault c.args.self.now c.hand_over.new.self c.in-Err.ensures.failed

pub returns-in-Ok-clause-works : goal.returns-in-Ok-clause-works
returns-in-Ok-clause-works c =
    works_on c.args.self.now c.hand_over.new.self c.answer_all.new.self (handed c.args.port c.in-Ok-true.field-0 c.args.self.now c.hand_over.new.self c.in-Ok-true.ensures.made) c.in-Ok.ensures.works

pub returns-in-Err-answer_all-clause-until : goal.returns-in-Err-answer_all-clause-until
returns-in-Err-answer_all-clause-until c =
    works_until c.in-Err-answer_all.fault c.args.self.now c.hand_over.new.self c.answer_all.new.self
    (handed c.args.port c.in-Ok-true.field-0 c.args.self.now c.hand_over.new.self c.in-Ok-true.ensures.made) c.in-Err-answer_all.ensures.until

pub returns-then-gives_way-clause-hands : goal.returns-then-gives_way-clause-hands
returns-then-gives_way-clause-hands c = (itself c.args.self.now, λ free some. sym c.gives_way.ensures ∙ c.if-gives_way.true)

pub returns-in-Ok-false-clause-hands : goal.returns-in-Ok-false-clause-hands
returns-in-Ok-false-clause-hands c = hands_none c.args.port c.in-Ok-false.field-0 c.args.self.now c.hand_over.new.self c.in-Ok-false.field-0-test c.in-Ok-false.ensures.made

pub returns-in-Ok-clause-hands : goal.returns-in-Ok-clause-hands
returns-in-Ok-clause-hands c =
    hands_one c.args.port c.gives_way.result c.in-Ok-true.field-0 c.args.self.now c.hand_over.new.self c.answer_all.new.self c.gives_way.ensures c.if-gives_way.false c.in-Ok-true.field-0-test c.in-Ok-true.ensures.made
    c.in-Ok.ensures.says
