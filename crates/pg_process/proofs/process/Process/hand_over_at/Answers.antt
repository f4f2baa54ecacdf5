use Rattle.pg_node.proofs.Linked.{on_ok}
use Rattle.pg_process.proofs.Chained.{until_then, works_on, works_then}
use Rattle.pg_process.proofs.Turning.{hands_not, hands_now}
use Rattle.pg_process.proofs.process.Process.hand_over_at.Goals as goal

pub returns-then-not-is_free-clause-hands : goal.returns-then-not-is_free-clause-hands
returns-then-not-is_free-clause-hands c = hands_not c.args.port c.args.is_tick c.is_free.result c.args.self.now c.answer_all.new.self c.in-Ok.ensures.says c.is_free.ensures c.if-not-is_free.true

pub returns-clause-works : goal.returns-clause-works
returns-clause-works c =
    works_then c.hand_over_many.result c.args.self.now c.look_on.new.self c.hand_over_many.new.self
    (works_on c.args.self.now c.answer_all.new.self c.look_on.new.self c.in-Ok.ensures.works c.look_on.ensures.works) c.hand_over_many.ensures.works

pub returns-clause-hands : goal.returns-clause-hands
returns-clause-hands c =
    on_ok c.hand_over_many.result _ _
    (λ many. hands_now c.args.port c.args.is_tick c.is_free.result c.look_on.result c.args.self.now c.answer_all.new.self c.look_on.new.self c.hand_over_many.new.self c.in-Ok.ensures.says c.is_free.ensures
    c.if-not-is_free.false c.look_on.ensures.made many) c.hand_over_many.ensures.hands

pub returns-clause-until : goal.returns-clause-until
returns-clause-until c =
    until_then c.hand_over_many.result c.args.self.now c.look_on.new.self c.hand_over_many.new.self
    (works_on c.args.self.now c.answer_all.new.self c.look_on.new.self c.in-Ok.ensures.works c.look_on.ensures.works) c.hand_over_many.ensures.until
