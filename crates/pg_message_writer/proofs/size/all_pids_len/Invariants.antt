use Rattle.std.proofs.Common.{◌≡◌, length, min, map, take}
use Rattle.pg_term.specs.declared.term.Term.TheVariants.{Pid}
use Rattle.pg_message_types.specs.PgTermIo.Writing.{all_bytes}
use Rattle.pg_message_writer.proofs.size.all_pids_len.Given as goal

abbrev pub invariant-loop-pid : goal.invariant-loop-pid
invariant-loop-pid l = l.len ≡ min (length (all_bytes (take l.pid-index (map Pid l.pids)))) 18446744073709551615
