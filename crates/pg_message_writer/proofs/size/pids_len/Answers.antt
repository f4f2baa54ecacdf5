use Rattle.std.proofs.Common.{arith}
use Rattle.pg_term.specs.declared.term.Term.TheVariants.{Pid}
use Rattle.pg_message_writer.proofs.Listed.{made_len}
use Rattle.pg_message_writer.proofs.size.pids_len.Goals as goal

pub returns : goal.returns
returns c = omega (arith, made_len Pid c.args.pids.now)
