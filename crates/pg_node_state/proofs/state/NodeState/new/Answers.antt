use Rattle.std.proofs.Common.{ap, subst}
use Rattle.pg_node_ports.specs.PgGroup.Table.{Table}
use Rattle.pg_node_ports.specs.PgStep.Machines.Clocked.{Timed}
use Rattle.pg_node_ports.specs.PgStep.Nodes.{Nodes}
use Rattle.pg_node_ports.specs.PgStep.State.{State}
use Rattle.pg_node_sends.specs.Opening.{Announces}
use Rattle.pg_node_state.specs.States.{names_of, nodes_of}
use Rattle.pg_node_sends.specs.Sent.{sends_in}
use Rattle.pg_node_state.proofs.Announced.{none_lost}
use Rattle.pg_node_state.proofs.state.NodeState.new.Goals as goal

pub returns-in-Ok-clause-sends : goal.returns-in-Ok-clause-sends
returns-in-Ok-clause-sends g c =
    let node = c.in_ok-node.node in
    let sends = sends_in (names_of node) c.in-Ok.sends.items in
    let started = c.in_ok-node.ensures.state in
    subst (λ (table : Table). Announces table (nodes_of node) sends) (ap (λ (s : Timed State). s.state.table) started)
    (subst (λ (m : Nodes). Announces (g.T.GroupTable.contents node.table) m sends) (none_lost node.opens (ap (λ (s : Timed State). s.state.lost) started)) c.in-Ok.ensures.announces)
