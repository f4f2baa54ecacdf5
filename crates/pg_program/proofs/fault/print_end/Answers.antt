use Rattle.std.specs.Prelude.{codes, decimal}
use Rattle.pg_program.specs.Told.{behind_refused, number_end, number_refused, refused_line}
use Rattle.pg_program.proofs.Telling.{told_first, told_next, told_bytes}
use Rattle.pg_program.proofs.fault.print_end.Goals as goal

pub returns-in-Ok : goal.returns-in-Ok
returns-in-Ok g c = told_next g.F.Sink.fails (g.F.Sink.contents c.args.faults.now) (g.F.Sink.contents c.put_number.new.faults) (g.F.Sink.contents c.put.new.faults) c.put.new.faults (decimal c.args.number) (codes "\n") c.put.result c.in-Ok.ensures c.put.ensures

pub returns-in-Err : goal.returns-in-Err
returns-in-Err g c = told_first g.F.Sink.fails (g.F.Sink.contents c.args.faults.now) (g.F.Sink.contents c.put_number.new.faults) c.put_number.new.faults (decimal c.args.number) (codes "\n") c.in-Err.fault c.in-Err.ensures
