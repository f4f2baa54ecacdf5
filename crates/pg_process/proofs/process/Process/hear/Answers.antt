use Rattle.pg_node.proofs.Linked.{as_err, on_ok}
use Rattle.pg_process.proofs.Chained.{hears_by, turns_by, unfinished, unheeded, unnoted}
use Rattle.pg_process.proofs.process.Process.hear.Goals as goal

pub returns-in-Err-clause-until : goal.returns-in-Err-clause-until
returns-in-Err-clause-until c = unnoted c.args.body.now c.in-Err.fault c.args.self.now c.note.new.self c.in-Err.ensures.failed

pub returns-in-Err-heed-clause-until : goal.returns-in-Err-heed-clause-until
returns-in-Err-heed-clause-until c = unheeded c.args.body.now c.in-Err-heed.fault c.args.self.now c.note.new.self c.heed.new.self c.in-Ok.ensures.made c.in-Err-heed.ensures.until

pub returns-in-Ok-heed-clause-hears : goal.returns-in-Ok-heed-clause-hears
returns-in-Ok-heed-clause-hears c =
    on_ok c.attend.result _ _
    (λ works. hears_by c.args.body.now c.args.self.now c.note.new.self c.heed.new.self c.attend.new.self c.in-Ok.ensures.whom c.in-Ok.ensures.made c.in-Ok-heed.ensures.heeds works) c.attend.ensures.works

pub returns-in-Ok-heed-clause-until : goal.returns-in-Ok-heed-clause-until
returns-in-Ok-heed-clause-until c =
    as_err c.attend.result _ _
    (λ fault works. unfinished c.args.body.now fault c.args.self.now c.note.new.self c.heed.new.self c.attend.new.self c.in-Ok.ensures.whom c.in-Ok.ensures.made c.in-Ok-heed.ensures.heeds works) c.attend.ensures.until

pub returns-in-Ok-heed-clause-turns : goal.returns-in-Ok-heed-clause-turns
returns-in-Ok-heed-clause-turns c =
    on_ok c.attend.result _ _
    (λ attends. turns_by c.args.body.now c.in-Ok-heed.is_tick c.args.self.now c.note.new.self c.heed.new.self c.attend.new.self c.in-Ok.ensures.whom c.in-Ok.ensures.made c.in-Ok-heed.ensures.heeds c.in-Ok-heed.ensures.tick attends) c.attend.ensures.attends
