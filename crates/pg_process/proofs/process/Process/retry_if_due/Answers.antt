use Rattle.std.proofs.Common.{arith}
use Rattle.pg_node.proofs.Linked.{on_ok}
use Rattle.pg_process.proofs.Chained.{until_then, works_on, works_then, works_until}
use Rattle.pg_process.proofs.Turning.{tries_not, tries_now, tries_nowhere}
use Rattle.pg_process.proofs.process.Process.retry_if_due.Goals as goal

pub returns-in-Err-clause-until : goal.returns-in-Err-clause-until
returns-in-Err-clause-until c = works_until c.in-Err.fault c.args.self.now c.look_on-seen.new.self c.retry_now.new.self c.look_on-seen.ensures.works c.in-Err.ensures.until

pub returns-clause-works : goal.returns-clause-works
returns-clause-works c =
    works_then c.answer_all.result c.args.self.now c.retry_now.new.self c.answer_all.new.self
    (works_on c.args.self.now c.look_on-seen.new.self c.retry_now.new.self c.look_on-seen.ensures.works c.in-Ok.ensures.works) c.answer_all.ensures.works

pub returns-clause-until : goal.returns-clause-until
returns-clause-until c =
    until_then c.answer_all.result c.args.self.now c.retry_now.new.self c.answer_all.new.self
    (works_on c.args.self.now c.look_on-seen.new.self c.retry_now.new.self c.look_on-seen.ensures.works c.in-Ok.ensures.works) c.answer_all.ensures.until

pub returns-then-port-len-clause-tries : goal.returns-then-port-len-clause-tries
returns-then-port-len-clause-tries c =
    tries_nowhere c.args.op c.args.is_tick c.from-port.result c.args.self.now c.from-port.ensures (omega (arith, c.len.ensures, c.args.self.now.all_desks, c.if-port-len.true))

pub returns-then-not-is_due-clause-tries : goal.returns-then-not-is_due-clause-tries
returns-then-not-is_due-clause-tries c = tries_not c.args.op c.args.is_tick c.from-port.result c.look_on-seen.result c.is_due.result c.args.self.now c.look_on-seen.new.self c.from-port.ensures (omega (arith, c.len.ensures, c.args.self.now.all_desks, c.if-port-len.false)) c.look_on-seen.ensures.made
    c.is_due.ensures c.if-not-is_due.true

pub returns-clause-tries : goal.returns-clause-tries
returns-clause-tries c =
    on_ok c.answer_all.result _ _ (λ says. tries_now c.args.op c.args.is_tick c.from-port.result c.look_on-seen.result c.is_due.result c.args.self.now c.look_on-seen.new.self c.retry_now.new.self c.answer_all.new.self
    c.from-port.ensures (omega (arith, c.len.ensures, c.args.self.now.all_desks, c.if-port-len.false)) c.look_on-seen.ensures.made c.is_due.ensures c.if-not-is_due.false c.in-Ok.ensures.retries says) c.answer_all.ensures.says
