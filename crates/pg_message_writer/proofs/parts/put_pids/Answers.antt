use Rattle.std.proofs.Common.{arith, map}
use Rattle.std.proofs.Math.ListN.{length-map}
use Rattle.pg_term.specs.declared.term.Term.TheVariants.{Pid}
use Rattle.pg_message_writer.proofs.Listed.{made_len}
use Rattle.pg_message_writer.proofs.Put.{made_put, count_few}
use Rattle.pg_message_writer.proofs.parts.put_pids.Goals as goal

pub overflow_cast-pids : goal.overflow_cast-pids
overflow_cast-pids c = omega (arith, length-map c.args.pids.now Pid, count_few (map Pid c.args.pids.now) c.requires.short)

pub put_list_head-requires : goal.put_list_head-requires
put_list_head-requires c = omega (arith, made_len Pid c.args.pids.now, c.requires.room)

pub put_all_pids-requires-clause-short : goal.put_all_pids-requires-clause-short
put_all_pids-requires-clause-short c = omega (arith, made_len Pid c.args.pids.now, c.requires.short)

pub put_all_pids-requires-clause-room : goal.put_all_pids-requires-clause-room
put_all_pids-requires-clause-room c = omega (arith, made_len Pid c.args.pids.now, c.requires.room)

pub extend_reserved-requires : goal.extend_reserved-requires
extend_reserved-requires c = omega (arith, made_len Pid c.args.pids.now, c.requires.room, c.put_all_pids.ensures.spare)

pub returns : goal.returns
returns c =
    made_put Pid c.args.pids.now c.args.out.now c.put_list_head.new.out c.put_all_pids.new.out c.extend_reserved.new.self c.requires.short c.put_list_head.ensures.items c.put_list_head.ensures.spare c.put_all_pids.ensures c.extend_reserved.ensures.items c.extend_reserved.ensures.spare
