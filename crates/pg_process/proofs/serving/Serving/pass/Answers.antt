use Rattle.pg_process.proofs.Storied.{cut_nowhere, passes, stops_passing}
use Rattle.pg_process.proofs.serving.Serving.pass.Goals as goal

pub returns-in-Ok-clause-passed : goal.returns-in-Ok-clause-passed
returns-in-Ok-clause-passed g c = λ story input serving.
    passes g.W.Sink.contents g.W.Sink.flushed g.L.Sink.contents g.L.Sink.flushed story input c.args.self.now.deframer.unread c.args.self.now.process c.pass_on.new.self c.args.writer.now c.pass_on.new.writer c.args.log.now c.pass_on.new.log serving
    c.in-Ok.ensures.wrote (c.in-Ok.ensures.logged (λ e. absurd (cc e))) c.in-Ok.ensures.gone (c.in-Ok.ensures.forgotten (λ e. absurd (cc e))) c.pass_on.ensures.situation c.pass_on.ensures.setting

pub returns-in-Err-clause-fault : goal.returns-in-Err-clause-fault
returns-in-Err-clause-fault g c = λ story input serving.
    stops_passing g.W.Sink.contents g.W.Sink.flushed g.L.Sink.contents g.L.Sink.flushed story g.W.Sink.fails g.L.Sink.fails c.in-Err.fault input c.args.self.now.process c.args.writer.now c.pass_on.new.writer c.args.log.now c.pass_on.new.log
    (cut_nowhere g.W.Sink.contents g.W.Sink.flushed g.L.Sink.contents g.L.Sink.flushed story input c.args.self.now.deframer.unread c.args.self.now.process c.args.writer.now c.args.log.now serving)
    c.in-Err.ensures.logged c.in-Err.ensures.before c.in-Err.ensures.log_part c.in-Err.ensures.part c.in-Err.ensures.cause
