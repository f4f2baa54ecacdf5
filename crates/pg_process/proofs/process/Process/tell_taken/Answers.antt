use Rattle.std.proofs.Common.{ap, length}
use Rattle.pg_node.specs.PgNodeState.States.{kept_by}
use Rattle.pg_process.proofs.Said.{taken_cut, taken_told}
use Rattle.pg_process.proofs.process.Process.tell_taken.Goals as goal

pub returns-in-Ok-clause-said : goal.returns-in-Ok-clause-said
returns-in-Ok-clause-said c =
    taken_told c.args.self.now c.args.packet.now c.args.done.now.began c.args.names.now (kept_by c.state.result.now) c.tell_packet.new.outlet.gathered.items (ap (λ n. kept_by n) c.state.ensures)
    c.in_ok-tell_packet.ensures.ok c.say_formed.new.self c.in-Ok.ensures.said c.in-Ok.ensures.told

pub returns-in-Err-clause-err : goal.returns-in-Err-clause-err
returns-in-Err-clause-err c =
    taken_cut c.args.self.now c.args.packet.now c.args.done.now.began c.args.names.now (kept_by c.state.result.now) c.tell_packet.new.outlet.gathered.items (ap (λ n. kept_by n) c.state.ensures)
    c.in_ok-tell_packet.ensures.ok (length c.bytes-len.result.now) c.say_formed.new.self.outlet.gathered.items c.cut.new.self.gathered.items (ap length c.bytes-len.ensures) c.in-Err.ensures.err c.cut.ensures
