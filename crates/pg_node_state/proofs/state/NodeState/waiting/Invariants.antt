use Rattle.std.proofs.Common.{◌≡◌, take}
use Rattle.pg_node_state.specs.States.{live_of, kept_by}
use Rattle.pg_node_state.specs.Waiting.{waiting_among, ops_of}
use Rattle.pg_node_state.proofs.state.NodeState.waiting.Given as goal

-- of the commands so far
abbrev pub invariant-loop-place : goal.invariant-loop-place
invariant-loop-place g l = l.ops.items ≡ waiting_among (live_of l.self) (kept_by l.self) (take l.place (ops_of l.self))
