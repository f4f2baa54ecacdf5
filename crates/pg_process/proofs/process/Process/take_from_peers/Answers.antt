use Rattle.std.proofs.Common.{arith}
use Rattle.pg_process.proofs.Chained.{works_on, works_until}
use Rattle.pg_process.proofs.Settling.{none_next}
use Rattle.pg_process.proofs.Situated.{same_peers}
use Rattle.pg_process.proofs.process.Process.take_from_peers.Goals as goal

pub loop-peer-preserved : goal.loop-peer-preserved
loop-peer-preserved c = record {
  works = works_on c.args.self.now c.loop-peer.self c.take_all.new.self c.loop-peer.invariant.works c.in-Ok.ensures.works;
  none = none_next c.loop-peer.peer c.loop-peer.self c.take_all.new.self c.loop-peer.invariant.none c.in-Ok.ensures.works c.in-Ok.ensures.none;
}

pub returns-clause-none : goal.returns-clause-none
returns-clause-none c = λ peer less.
    let same = same_peers c.args.self.now c.loop-peer.self c.loop-peer.invariant.works.goes.setting in
    c.loop-peer.invariant.none peer (omega (arith, less, same, c.len-peer-end.ensures, c.loop-peer-test.false))

pub returns-in-Err-clause-until : goal.returns-in-Err-clause-until
returns-in-Err-clause-until c = works_until c.in-Err.fault c.args.self.now c.loop-peer.self c.take_all.new.self c.loop-peer.invariant.works c.in-Err.ensures.until
