use Rattle.std.proofs.Common.{◌≡◌, ◌∙◌, List, length, ap, arith}
use Rattle.pg_node_state.specs.PgGroup.Table.{Table}
use Rattle.pg_node_state.specs.PgStep.Nodes.{Node}
use Rattle.pg_node_state.specs.PgStep.State.{new_state}
use Rattle.pg_node_state.proofs.Apart.{two_apart, few_in_none}
use Rattle.pg_node.proofs.replica.server.idle_server.Goals as goal

pub started-requires-clause-apart : goal.started-requires-clause-apart
started-requires-clause-apart c = two_apart c.in_ok-own_name.field-0 c.args.peer.now c.in_ok-one_peer.field-0.items c.in_ok-one_peer.ensures c.in_ok-own_name.ensures.apart

pub started-requires-clause-peers : goal.started-requires-clause-peers
started-requires-clause-peers c = let one : length c.in_ok-one_peer.field-0.items ≡ 1 = ap (λ (ns : List Node). length ns) c.in_ok-one_peer.ensures in omega (arith, one)

pub started-requires-clause-few : goal.started-requires-clause-few
started-requires-clause-few c = few_in_none _ c.new-2.ensures

pub returns-clause-state : goal.returns-clause-state
returns-clause-state c = c.in_ok-started.ensures.state ∙ ap (λ (table : Table). record { clock = 0; state = new_state table 0 }) c.new-2.ensures
