-- What a node is seen as.
use Rattle.std.specs.Prelude.{ℕ, List}
use Rattle.pg_node_state.specs.PgGroup.declared.table.GroupTable.{Ghosts}
use Rattle.pg_node_state.specs.PgStep.Machines.Clocked.{Timed}
use Rattle.pg_node_state.specs.PgStep.declared.answer.Answer.{Answer}
use Rattle.pg_node_state.specs.PgStep.Nodes.{Node}
use Rattle.pg_node_state.specs.PgStep.State.{State}
use Rattle.pg_node_state.specs.declared.state.NodeState.{NodeState}
use Rattle.pg_node_state.specs.Issued.{ports_of}
use Rattle.pg_node_state.specs.States.{names_of, state_of, answers_of}

-- A node: the names of all nodes as it knows them, its own first, how many ports it has, its state, and the
-- answers that were given at each port.
pub record Seen : Type 0 where
  pub names : List Node
  pub ports : ℕ
  pub state : Timed State
  pub answers : ℕ → List Answer

abbrev pub seen_of : {T : Type 0} {g : Ghosts T} → NodeState T g → Seen
seen_of node = record { names = names_of node; ports = ports_of node; state = state_of node; answers = answers_of node }
