use Rattle.std.proofs.Common.{◌+◌, ◌^◌, arith}
use Rattle.pg_node_ports.specs.PgGroup.Ended.{ended_of}
use Rattle.pg_node_state.specs.States.{names_of}
use Rattle.pg_node_state.proofs.Counts.{few_changed}
use Rattle.pg_node_state.proofs.state.NodeState.serve_update.Goals as goal

pub invariant_of-self-2-clause-few : goal.invariant_of-self-2-clause-few
invariant_of-self-2-clause-few g c =
    let old = c.args.self.now in
    let contents = g.T.GroupTable.contents in
    few_changed (2 ^ 32 + old.clock) (2 ^ 32 + c.args.clock) (contents old.table) (contents c.change_for_peer.new.table) c.args.update.now (ended_of old.ended)
    (omega (arith, c.requires.now.later)) old.few c.in_ok-done.ensures.table

pub returns-clause-told : goal.returns-clause-told
returns-clause-told g c = record {
  sends = c.in_ok-done.ensures.sends (names_of c.args.self.now);
  began = c.in_ok-done.ensures.began;
  odd = c.in_ok-done.ensures.odd;
}
