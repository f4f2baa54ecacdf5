use Rattle.std.proofs.Common.{map, take}
use Rattle.pg_term.specs.declared.term.Term.TheVariants.{Pid}
use Rattle.pg_message_writer.specs.Puts.{PutsAll}
use Rattle.pg_message_writer.proofs.parts.put_all_pids.Given as goal

abbrev pub invariant-loop-pid : goal.invariant-loop-pid
invariant-loop-pid l = PutsAll l.fn.out l.out (take l.pid-index (map Pid l.pids))
