use Rattle.pg_process.proofs.Storied.{stops_for, stops_passing}
use Rattle.pg_process.proofs.serving.Serving.stop.Goals as goal

pub returns-in-Ok-clause-fault : goal.returns-in-Ok-clause-fault
returns-in-Ok-clause-fault g c = λ story input halted.
    stops_for g.W.Sink.contents g.W.Sink.flushed g.L.Sink.contents g.L.Sink.flushed story g.W.Sink.fails g.L.Sink.fails c.args.fault input c.args.self.now.process c.args.writer.now c.pass_on.new.writer c.args.log.now c.pass_on.new.log halted
    (c.in-Ok.ensures.logged (λ e. absurd (cc e))) c.in-Ok.ensures.wrote

pub returns-in-Err-clause-fault : goal.returns-in-Err-clause-fault
returns-in-Err-clause-fault g c = λ story input halted.
    stops_passing g.W.Sink.contents g.W.Sink.flushed g.L.Sink.contents g.L.Sink.flushed story g.W.Sink.fails g.L.Sink.fails c.in-Err.fault input c.args.self.now.process c.args.writer.now c.pass_on.new.writer c.args.log.now c.pass_on.new.log
    halted.cut c.in-Err.ensures.logged c.in-Err.ensures.before c.in-Err.ensures.log_part c.in-Err.ensures.part c.in-Err.ensures.cause
