use Rattle.std.proofs.Common.{arith, ap, length}
use Rattle.pg_term.specs.declared.term.Term.TheVariants.{Pid}
use Rattle.pg_message_writer.proofs.Listed.{part_len}
use Rattle.pg_message_writer.proofs.Words.{pid_is}
use Rattle.pg_message_writer.proofs.size.all_pids_len.Goals as goal

pub loop-pid-preserved : goal.loop-pid-preserved
loop-pid-preserved c =
    let len = part_len Pid c.args.pids.now c.loop-pid.pid-index c.pid-item.result c.loop-pid-test.true c.pid-item.is in
    omega (arith, len, ap length (pid_is c.pid-item.result), c.loop-pid.invariant)
