use Rattle.pg_node.proofs.Linked.{as_err, on_ok}
use Rattle.pg_process.proofs.Storied.{never_ok, new_halts, new_hears}
use Rattle.pg_process.proofs.serving.Serving.start.Goals as goal

pub returns-in-Ok-clause-served : goal.returns-in-Ok-clause-served
returns-in-Ok-clause-served g c =
    let before = c.args.self.now in
    let heard = c.hear_first.new.self in
    on_ok c.hear_all.result _ _
    (λ served story input new. served story input
    (new_hears g.W.Sink.contents g.W.Sink.flushed g.L.Sink.contents g.L.Sink.flushed story input before.deframer.unread heard.deframer.unread before.process heard.process c.args.writer.now c.args.log.now new c.in-Ok.ensures.heard)) c.hear_all.ensures.served

pub returns-in-Ok-clause-fault : goal.returns-in-Ok-clause-fault
returns-in-Ok-clause-fault g c =
    let before = c.args.self.now in
    let heard = c.hear_first.new.self in
    as_err c.hear_all.result _ _
    (λ fault stops story input new. stops story input
    (new_hears g.W.Sink.contents g.W.Sink.flushed g.L.Sink.contents g.L.Sink.flushed story input before.deframer.unread heard.deframer.unread before.process heard.process c.args.writer.now c.args.log.now new c.in-Ok.ensures.heard)) c.hear_all.ensures.fault

pub returns-in-Err-clause-served : goal.returns-in-Err-clause-served
returns-in-Err-clause-served g c = never_ok c.stop.result _ c.stop.ensures.never

pub returns-in-Err-clause-fault : goal.returns-in-Err-clause-fault
returns-in-Err-clause-fault g c =
    let before = c.args.self.now in
    as_err c.stop.result _ _
    (λ told stops story input new. stops story input
    (new_halts g.W.Sink.contents g.W.Sink.flushed g.L.Sink.contents g.L.Sink.flushed story input before.deframer.unread c.in-Err.fault before.process c.hear_first.new.self.process c.args.writer.now c.args.log.now new c.in-Err.ensures.fault)) c.stop.ensures.fault

pub returns-in-Err-clause-rest : goal.returns-in-Err-clause-rest
returns-in-Err-clause-rest g c = never_ok c.stop.result _ c.stop.ensures.never
