use Rattle.std.proofs.Common.{◌++◌}
use Rattle.pg_script_trace.proofs.PgNode.Replicas.Streams.{appends_then}
use Rattle.pg_script.proofs.running.run_lines.Goals as goal

pub returns-in_err-put_whole-clause-appended : goal.returns-in_err-put_whole-clause-appended
returns-in_err-put_whole-clause-appended g c =
    let i = c.loop-line.invariant in
    let h = c.in_err-put_whole.ensures.fault in
    (i.0 ++ h.1.0, appends_then (g.W.Sink.contents c.args.writer.now) (g.W.Sink.contents c.loop-line.writer) (g.W.Sink.contents c.put_whole.new.writer) i.0 h.1.0 i.1 h.1.3)

pub loop-line-preserved : goal.loop-line-preserved
loop-line-preserved g c =
    let i = c.loop-line.invariant in
    (i.0 ++ c.as_bytes.result.now, appends_then (g.W.Sink.contents c.args.writer.now) (g.W.Sink.contents c.loop-line.writer) (g.W.Sink.contents c.put_whole.new.writer) i.0 c.as_bytes.result.now i.1 c.in_ok-put_whole.ensures.ok)
