-- The open commands of a node that wait for their retry.
use Rattle.std.specs.Prelude.{◌≡◌, Bool, false, List}
use Rattle.std.specs.List.{IsDistinct, filter, list_any}
use Rattle.pg_node_ports.specs.PgGroup.declared.table.GroupTable.{Ghosts}
use Rattle.pg_node_ports.specs.PgStep.declared.command.OpId.{OpId}
use Rattle.pg_node_ports.specs.PgStep.Nodes.{Nodes}
use Rattle.pg_node_ports.specs.PgStep.State.{State, Stage}
use Rattle.pg_node_ports.specs.PgStep.State.Stage.{Asking, Changing}
use Rattle.pg_node_ports.specs.PgStep.Attempts.{same_op, is_complete, waits}
use Rattle.pg_node_ports.specs.PgNodeOpens.Opens as opens
use Rattle.pg_node_state.specs.declared.state.NodeState.{NodeState}

-- the open commands, the earliest first
abbrev pub ops_of : {T : Type 0} {g : Ghosts T} → NodeState T g → List OpId
ops_of node = opens.ops_of node.opens

-- those of them that wait
abbrev pub waiting_among : Nodes → State → List OpId → List OpId
waiting_among m s ops = filter (λ op. waits m (s.stages op) s) ops

-- all has come that the command gathers, so that a retry goes on from there
abbrev pub is_ready : Nodes → Stage → State → Bool
is_ready m (Asking c) s = is_complete m (s.uses c)
is_ready m (Changing n) s = is_complete m (s.uses n)
is_ready m stage s = false

-- these are the commands that wait, each once
pub record AreWaiting (m : Nodes) (s : State) (ops : List OpId) : Type 0 where
  pub each : (op : OpId) → list_any (λ other. same_op other op) ops ≡ waits m (s.stages op) s
  pub once : IsDistinct same_op ops
