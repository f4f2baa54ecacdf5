use Rattle.pg_node.proofs.Linked.{on_ok}
use Rattle.pg_process.specs.Turns.{Serves}
use Rattle.pg_process.proofs.Chained.{until_then, works_on, works_then, works_until}
use Rattle.pg_process.proofs.Settling.{keeps_denied_then, said_denied_then}
use Rattle.pg_process.proofs.process.Process.serve_ports.Goals as goal

pub returns-in-Err-hand_over_all-clause-until : goal.returns-in-Err-hand_over_all-clause-until
returns-in-Err-hand_over_all-clause-until c =
    works_until c.in-Err-hand_over_all.fault c.args.self.now c.retry_all.new.self c.hand_over_all.new.self
    (works_on c.args.self.now c.answer_ports.new.self c.retry_all.new.self c.in-Ok.ensures.works c.in-Ok-retry_all.ensures.works) c.in-Err-hand_over_all.ensures.until

pub returns-clause-until : goal.returns-clause-until
returns-clause-until c =
    until_then c.tell_all_denied.result c.args.self.now c.hand_over_all.new.self c.tell_all_denied.new.self
    (works_on c.args.self.now c.retry_all.new.self c.hand_over_all.new.self
    (works_on c.args.self.now c.answer_ports.new.self c.retry_all.new.self c.in-Ok.ensures.works c.in-Ok-retry_all.ensures.works) c.in-Ok-hand_over_all.ensures.works)
    c.tell_all_denied.ensures.until

pub returns-clause-works : goal.returns-clause-works
returns-clause-works c =
    works_then c.tell_all_denied.result c.args.self.now c.hand_over_all.new.self c.tell_all_denied.new.self
    (works_on c.args.self.now c.retry_all.new.self c.hand_over_all.new.self
    (works_on c.args.self.now c.answer_ports.new.self c.retry_all.new.self c.in-Ok.ensures.works c.in-Ok-retry_all.ensures.works) c.in-Ok-hand_over_all.ensures.works)
    c.tell_all_denied.ensures.works

pub returns-clause-serves : goal.returns-clause-serves
returns-clause-serves c =
    on_ok c.tell_all_denied.result _ (Serves c.args.is_tick c.args.self.now c.tell_all_denied.new.self)
    (λ rest. record {
      before = c.answer_ports.new.self;
      works = c.in-Ok.ensures.works;
      said = c.in-Ok.ensures.said;
      tried = c.retry_all.new.self;
      tries = c.in-Ok-retry_all.ensures.retries;
      handed = c.hand_over_all.new.self;
      hands = c.in-Ok-hand_over_all.ensures.hands;
      rest = rest;
    })
    c.tell_all_denied.ensures.works

pub returns-clause-said : goal.returns-clause-said
returns-clause-said c = said_denied_then c.tell_all_denied.result c.hand_over_all.new.self c.tell_all_denied.new.self c.in-Ok-hand_over_all.ensures.said c.tell_all_denied.ensures.works c.tell_all_denied.ensures.only

pub returns-clause-handed : goal.returns-clause-handed
returns-clause-handed c = keeps_denied_then c.tell_all_denied.result c.hand_over_all.new.self c.tell_all_denied.new.self c.in-Ok-hand_over_all.ensures.kept c.tell_all_denied.ensures.works c.tell_all_denied.ensures.only
