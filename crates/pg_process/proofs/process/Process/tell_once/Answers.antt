use Rattle.pg_node.proofs.Linked.{on_ok}
use Rattle.pg_process.specs.Settled.{OnlyTold}
use Rattle.pg_process.proofs.Chained.{until_then, works_on}
use Rattle.pg_process.proofs.Settling.{told_once, told_only}
use Rattle.pg_process.proofs.process.Process.tell_once.Goals as goal

pub returns-clause-told : goal.returns-clause-told
returns-clause-told c =
    told_once c.warn_of_ended.result c.form.new.self c.warn_of_clock.new.self c.warn_of_ended.new.self c.in-Ok-warn_of_clock.ensures.works c.warn_of_ended.ensures.works
    c.in-Ok-warn_of_clock.ensures.rest c.warn_of_ended.ensures.rest c.in-Ok.ensures.told c.in-Ok-warn_of_clock.ensures.formed c.in-Ok-warn_of_clock.ensures.old
    c.warn_of_ended.ensures.formed c.warn_of_ended.ensures.clock c.warn_of_ended.ensures.many

pub returns-clause-rest : goal.returns-clause-rest
returns-clause-rest c =
    on_ok c.warn_of_ended.result _ (OnlyTold c.args.self.now c.warn_of_ended.new.self)
    (λ rest. told_only c.args.self.now c.warn_of_clock.new.self c.warn_of_ended.new.self
    (told_only c.args.self.now c.form.new.self c.warn_of_clock.new.self c.in-Ok.ensures.rest c.in-Ok-warn_of_clock.ensures.rest) rest)
    c.warn_of_ended.ensures.rest

pub returns-clause-until : goal.returns-clause-until
returns-clause-until c =
    until_then c.warn_of_ended.result c.args.self.now c.warn_of_clock.new.self c.warn_of_ended.new.self
    (works_on c.args.self.now c.form.new.self c.warn_of_clock.new.self c.in-Ok.ensures.works c.in-Ok-warn_of_clock.ensures.works) c.warn_of_ended.ensures.until
