use Rattle.std.proofs.Common.{arith}
use Rattle.pg_text.proofs.TermsBack.{pid_reads_back, scalars_same}
use Rattle.pg_text.proofs.again.pid_again.Goals as goal

pub returns : goal.returns
returns c = pid_reads_back c.args.pid.now c.as_str-text.ensures.limit (scalars_same c.as_str-text.result.now c.args.pid.now.node c.as_str-text.utf8 c.as_str-text.ensures.characters) (omega arith) (omega arith) (omega arith)
