use Rattle.std.proofs.Common.{◌+◌, ◌^◌, arith}
use Rattle.pg_node_state.proofs.Counts.{few_without}
use Rattle.pg_node_state.proofs.state.NodeState.take_end.Goals as goal

pub invariant_of-self-2-clause-few : goal.invariant_of-self-2-clause-few
invariant_of-self-2-clause-few g c =
    let old = c.args.self.now in
    let contents = g.T.GroupTable.contents in
    few_without (2 ^ 32 + old.clock) (2 ^ 32 + c.args.clock) (contents old.table) (contents c.take_end.new.table) c.args.pid.now
    (omega (arith, c.requires.now.later)) old.few c.in_ok-take_end.ensures.dropped
