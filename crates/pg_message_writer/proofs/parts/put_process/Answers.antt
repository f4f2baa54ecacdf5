use Rattle.std.proofs.Common.{arith, ap, length}
use Rattle.pg_term.specs.declared.term.Term.TheVariants.{Pid}
use Rattle.pg_message_types.specs.PgTermIo.Writing.{pid_bytes}
use Rattle.pg_message_writer.proofs.Put.{leaf}
use Rattle.pg_message_writer.proofs.Words.{pid_is}
use Rattle.pg_message_writer.proofs.parts.put_process.Goals as goal

pub put_pid-requires : goal.put_pid-requires
put_pid-requires c = omega (arith, ap length (pid_is c.args.pid.now), c.requires)

pub returns : goal.returns
returns c = leaf c.args.out.now c.put_pid.new.out (Pid c.args.pid.now) (pid_bytes c.args.pid.now) (pid_is c.args.pid.now) c.put_pid.ensures.items c.put_pid.ensures.spare c.put_pid.ensures.spelled
