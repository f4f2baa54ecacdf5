use Rattle.pg_group.proofs.Copies.{pids_begun, pids_more, pids_all, pids_living}
use Rattle.pg_group.proofs.members.Members.copy.Goals as goal

pub loop-pid-init : goal.loop-pid-init
loop-pid-init c =
    let gives = c.into_iter-pid-iterator.ensures.into_iter_gives in
    pids_begun c.args.self.now.counts c.new-counts.result c.into_iter-pid-iterator.result gives.0 gives.6 c.new-counts.ensures.empty

pub loop-pid-preserved : goal.loop-pid-preserved
loop-pid-preserved c =
    pids_more c.args.self.now.counts c.loop-pid.counts c.insert.new.self c.in-Some.pid.now c.in_ok-copy.field-0 c.in-Some.count.now c.loop-pid.pid-iterator c.next.new.self
    c.in-Some.ensures.steps c.in_ok-copy.ensures c.loop-pid.invariant c.in_ok-insert.ensures.updates

pub returns : goal.returns
returns c = pids_all c.args.self.now.counts c.loop-pid.counts c.loop-pid.pid-iterator c.in-None.ensures.steps.0 c.loop-pid.invariant

pub invariant_of-result : goal.invariant_of-result
invariant_of-result c = record { living = pids_living c.args.self.now.counts c.loop-pid.counts c.loop-pid.pid-iterator c.in-None.ensures.steps.0 c.loop-pid.invariant c.args.self.now.living }
