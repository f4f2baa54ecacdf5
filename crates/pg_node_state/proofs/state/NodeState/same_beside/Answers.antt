use Rattle.std.proofs.Common.{◌∙◌, sym}
use Rattle.pg_node_ports.proofs.PgNodeOpens.Named.{clash}
use Rattle.pg_node_state.proofs.state.NodeState.same_beside.Goals as goal
use Rattle.pg_node_state.proofs.state.NodeState.same_beside.Goals.{then-same_processes, else-same_processes}

pub returns-then-same_sets : goal.returns-then-same_sets
returns-then-same_sets g c = elim c.if-same_processes.branch [
  | then-same_processes w ↦ (
    λ t.
        let processes = c.same_processes.ensures.0 w.if-same_processes.true in
        let sets = w.same_sets.ensures.0 (sym w.value-is ∙ c.if-same_sets.true) in
        let commands = c.same_commands.ensures.0 t in
        record {
          processes = processes;
          ended = sets.0;
          locks = sets.1;
          formation = sets.2;
          opens = commands.0;
          ports = commands.1;
        },
    λ h. c.same_commands.ensures.1 (h.opens, h.ports),
  )
  | else-same_processes w ↦ absurd (clash (sym c.if-same_sets.true ∙ (w.value-is ∙ w.if-same_processes.false)))
]
