use Rattle.std.proofs.Common.{arith, codes, ap, length}
use Rattle.pg_term.specs.declared.term.Term.TheVariants.{Atom, Pid}
use Rattle.pg_message_writer.proofs.Words.{pair_len, pid_is}
use Rattle.pg_message_writer.proofs.size.down_len.Goals as goal

pub returns-clause-len : goal.returns-clause-len
returns-clause-len c = omega (arith, pair_len (Atom (codes "down")) (Pid c.args.pid.now), ap length (pid_is c.args.pid.now))
