use Rattle.std.proofs.Common.{arith}
use Rattle.pg_term.specs.declared.term.Term.TheVariants.{Pid}
use Rattle.pg_message_writer.proofs.Listed.{part_room}
use Rattle.pg_message_writer.proofs.Put.{nothing, one_more}
use Rattle.pg_message_writer.proofs.parts.put_all_pids.Goals as goal

pub loop-pid-init : goal.loop-pid-init
loop-pid-init c = nothing c.args.out.now

pub loop-pid-preserved : goal.loop-pid-preserved
loop-pid-preserved c = one_more Pid c.args.pids.now c.loop-pid.pid-index c.pid-item.result c.loop-pid-test.true c.pid-item.is c.loop-pid.invariant c.put_process.ensures

pub put_process-requires : goal.put_process-requires
put_process-requires c =
    let fits = part_room Pid c.args.pids.now c.loop-pid.pid-index c.pid-item.result c.loop-pid-test.true c.pid-item.is in
    omega (arith, fits, c.requires.room, c.loop-pid.invariant.spare)
