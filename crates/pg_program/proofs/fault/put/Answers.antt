use Rattle.std.specs.Prelude.{codes, decimal}
use Rattle.pg_program.specs.Told.{behind_refused, number_end, number_refused, refused_line}
use Rattle.pg_program.proofs.Telling.{told_first, told_next, told_bytes}
use Rattle.pg_program.proofs.fault.put.Goals as goal

pub returns : goal.returns
returns g c = told_bytes g.F.Sink.fails (g.F.Sink.contents c.args.faults.now) (g.F.Sink.contents c.put_whole.new.writer) c.put_whole.new.writer c.args.bytes.now c.put_whole.result c.put_whole.ensures.ok c.put_whole.ensures.fault c.put_whole.ensures.cause
