-- What comes of a command at the port where it came in.
use Rattle.std.specs.Prelude.{ℕ, length}
use Rattle.pg_node_ports.specs.PgGroup.declared.table.GroupTable.{Ghosts}
use Rattle.pg_node_ports.specs.PgGroup.declared.update.Update.{Update}
use Rattle.pg_term.specs.Same.{same_atom}
use Rattle.pg_node_ports.specs.PgStep.declared.command.OpId.{OpId}
use Rattle.pg_node_ports.specs.PgStep.Nodes.{Nodes, greatest}
use Rattle.pg_node_ports.specs.PgStep.State.{State}
use Rattle.pg_node_ports.specs.PgStep.State.Status.{Unasked}
use Rattle.pg_node_ports.specs.PgStep.Turns.{NodeTurn, and_then}
use Rattle.pg_node_ports.specs.PgStep.Attempts.{new_attempt, ask}
use Rattle.pg_node_ports.specs.PgStep.Commands.{count_command, next_op}
use Rattle.pg_node_state.specs.declared.state.NodeState.{NodeState}

-- how many ports a node has
abbrev pub ports_of : {T : Type 0} {g : Ghosts T} → NodeState T g → ℕ
ports_of node = length node.ports.items

-- the next command of a port is counted, and this follows for it
abbrev pub op_issued : ℕ → (OpId → State → NodeTurn) → State → NodeTurn
op_issued port turn s = and_then (count_command port s) (turn (next_op port s))

-- a new attempt begins, and the greatest of the nodes that count is asked, alone
abbrev pub asked_first : Nodes → OpId → Update → State → NodeTurn
asked_first m op update s =
    and_then (new_attempt (greatest m) op update s)
    (λ t. ask m (same_atom (greatest m)) t.references op update (greatest m) (λ q. Unasked) t)
