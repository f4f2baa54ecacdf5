use Rattle.std.proofs.Common.{arith}
use Rattle.pg_process.proofs.Chained.{works_on, works_until}
use Rattle.pg_process.proofs.Settling.{said_next}
use Rattle.pg_process.proofs.Situated.{same_ports}
use Rattle.pg_process.proofs.process.Process.answer_ports.Goals as goal

pub loop-port-preserved : goal.loop-port-preserved
loop-port-preserved c = record {
  works = works_on c.args.self.now c.loop-port.self c.answer_all.new.self c.loop-port.invariant.works c.in-Ok.ensures.works;
  said = said_next c.loop-port.port c.loop-port.self c.answer_all.new.self c.loop-port.invariant.said c.in-Ok.ensures.others c.in-Ok.ensures.none;
}

pub returns-clause-said : goal.returns-clause-said
returns-clause-said c = λ port less.
    let same = same_ports c.args.self.now c.loop-port.self c.loop-port.invariant.works.goes.setting in
    c.loop-port.invariant.said port (omega (arith, less, same, c.args.self.now.all_desks, c.len-port-end.ensures, c.loop-port-test.false))

pub returns-in-Err-clause-until : goal.returns-in-Err-clause-until
returns-in-Err-clause-until c = works_until c.in-Err.fault c.args.self.now c.loop-port.self c.answer_all.new.self c.loop-port.invariant.works c.in-Err.ensures.until
