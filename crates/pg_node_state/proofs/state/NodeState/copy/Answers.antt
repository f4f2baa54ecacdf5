use Rattle.std.proofs.Common.{refl, sym, ap}
use Rattle.pg_node_ports.specs.PgGroup.Ended.{ended_of}
use Rattle.pg_node_state.proofs.Copied.{kept_too}
use Rattle.pg_node_state.proofs.SameNodes.{alike_forth, same_of_alike}
use Rattle.pg_node_ports.proofs.SamePorts.{same_of_copies, forgotten_by_copies}
use Rattle.pg_node_state.proofs.state.NodeState.copy.Goals as goal

pub invariant_of-result : goal.invariant_of-result
invariant_of-result g c =
    let was = c.args.self.now in
    kept_too was c.in_ok-opens.opens c.in_ok-table.table c.in_ok-formation.formation c.in_ok-processes.processes c.in_ok-ports.ports.items c.in_ok-opens.ensures c.in_ok-table.ensures c.in_ok-formation.ensures
    c.in_ok-processes.ensures.node (same_of_copies was.ports.items c.in_ok-ports.ports.items c.in_ok-ports.ensures.cases.0)

pub returns-clause-same : goal.returns-clause-same
returns-clause-same g c =
    let was = c.args.self.now in
    same_of_alike was _ refl (alike_forth was _ (record {
      processes = sym c.in_ok-processes.ensures.made;
      ended = sym (ap ended_of c.in_ok-ended.ensures);
      locks = sym c.in_ok-locks.ensures;
      formation = sym c.in_ok-formation.ensures;
      opens = c.in_ok-opens.ensures;
      ports = same_of_copies was.ports.items c.in_ok-ports.ports.items c.in_ok-ports.ensures.cases.0;
    }) (sym c.in_ok-table.ensures))

pub returns-clause-forgotten : goal.returns-clause-forgotten
returns-clause-forgotten g c = forgotten_by_copies c.args.self.now.ports.items c.in_ok-ports.ports.items c.in_ok-ports.ensures.cases.0
