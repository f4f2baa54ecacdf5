use Rattle.std.proofs.Common.{◌++◌}
use Rattle.pg_script_trace.proofs.PgNode.Replicas.Streams.{appends_then}
use Rattle.pg_script.proofs.running.run_watched.Goals as goal

pub returns-in_err-run_lines-clause-appended : goal.returns-in_err-run_lines-clause-appended
returns-in_err-run_lines-clause-appended g c =
    let more = c.in_err-run_lines.ensures.appended in
    (c.as_bytes.result.now ++ more.0, appends_then (g.W.Sink.contents c.args.writer.now) (g.W.Sink.contents c.put_whole.new.writer) (g.W.Sink.contents c.run_lines.new.writer) c.as_bytes.result.now more.0 c.in_ok-put_whole.ensures.ok more.1)

pub returns-in-Some-clause-appended : goal.returns-in-Some-clause-appended
returns-in-Some-clause-appended g c =
    let more = c.in_ok-run_lines.ensures.appended in
    (c.as_bytes.result.now ++ more.0, appends_then (g.W.Sink.contents c.args.writer.now) (g.W.Sink.contents c.put_whole.new.writer) (g.W.Sink.contents c.run_lines.new.writer) c.as_bytes.result.now more.0 c.in_ok-put_whole.ensures.ok more.1)

pub returns-in-None-clause-appended : goal.returns-in-None-clause-appended
returns-in-None-clause-appended g c =
    let more = c.in_ok-run_lines.ensures.appended in
    (c.as_bytes.result.now ++ more.0, appends_then (g.W.Sink.contents c.args.writer.now) (g.W.Sink.contents c.put_whole.new.writer) (g.W.Sink.contents c.run_lines.new.writer) c.as_bytes.result.now more.0 c.in_ok-put_whole.ensures.ok more.1)
