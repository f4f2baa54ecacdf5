use Rattle.std.proofs.Common.{Ok, ap, subst, sym}
use Rattle.std.specs.Prelude.{Result}
use Rattle.pg_process.specs.declared.fault.EndFault.{EndFault}
use Rattle.pg_process.specs.Serving.{Ends}
use Rattle.pg_process.proofs.Ended.{lapsed_ends, unarrived_ends}
use Rattle.pg_process.proofs.serving.serve_opened.Goals as goal

pub returns-in-Ok-true : goal.returns-in-Ok-true
returns-in-Ok-true g c = c.serve_first.ensures c.args.reader.now (c.in-Ok-true.ensures.came (ap (λ b. Ok b) c.in-Ok-true.field-0-test))

pub returns-in-Ok-false : goal.returns-in-Ok-false
returns-in-Ok-false g c =
    subst (λ (result : Result (Unit {0}) EndFault). Ends g.W.Sink.contents g.W.Sink.flushed g.W.Sink.fails g.L.Sink.contents g.L.Sink.flushed g.L.Sink.fails g.R.Source.gives g.R.Source.remaining g.R.Source.fails c.args.config c.args.reader.now
    c.await_first.new.reader c.args.writer.now c.args.writer.now c.args.log.now c.args.log.now result) (sym c.end_of-ended.ensures)
    (lapsed_ends g.W.Sink.contents g.W.Sink.flushed g.W.Sink.fails g.L.Sink.contents g.L.Sink.flushed g.L.Sink.fails g.R.Source.gives g.R.Source.remaining g.R.Source.fails c.args.config c.args.reader.now c.await_first.new.reader
    c.args.writer.now c.args.log.now c.await_first.new.deframer.unread (c.in-Ok-false.ensures.over (ap (λ b. Ok b) c.in-Ok-false.field-0-test)))

pub returns-in-Err : goal.returns-in-Err
returns-in-Err g c =
    unarrived_ends g.W.Sink.contents g.W.Sink.flushed g.W.Sink.fails g.L.Sink.contents g.L.Sink.flushed g.L.Sink.fails g.R.Source.gives g.R.Source.remaining g.R.Source.fails c.args.config c.args.reader.now c.await_first.new.reader c.args.writer.now
    c.args.log.now c.in-Err.fault c.in-Err.ensures.fault
