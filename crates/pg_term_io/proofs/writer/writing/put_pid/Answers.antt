use Rattle.std.proofs.Common.{arith}
use Rattle.pg_term_io.proofs.Spelled.{pid_spelled}
use Rattle.pg_term_io.proofs.writer.writing.put_pid.Goals as goal

pub returns-clause-spelled : goal.returns-clause-spelled
returns-clause-spelled c = pid_spelled c.args.pid.now c.put_atom.ensures.spelled (omega arith) (omega arith) (omega arith)
