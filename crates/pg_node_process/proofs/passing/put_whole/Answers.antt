use Rattle.std.proofs.Common.{◌++◌, take}
use Rattle.pg_node_process.proofs.Passed.{appends_then, onward}
use Rattle.pg_node_process.proofs.passing.put_whole.Goals as goal

pub loop-rest-preserved : goal.loop-rest-preserved
loop-rest-preserved g c =
    let i = c.loop-rest.invariant in
    let rest = c.loop-rest.rest.now in
    let n = c.in-Ok.count in (
      i.0 ++ take n rest,
      onward i.0 rest c.args.bytes.now n i.1,
      appends_then (g.S.Sink.contents c.args.sink.now) (g.S.Sink.contents c.loop-rest.sink) (g.S.Sink.contents c.write_some.new.self) i.0 (take n rest) i.2 c.in-Ok.ensures.bytes,
    )
