use Rattle.std.proofs.Common.{◌≡◌, drop}
use Rattle.std.specs.List.{list_any}
use Rattle.std.specs.Prelude.{not}
use Rattle.pg_node_state.specs.States.{kept_by}
use Rattle.pg_world_packets.proofs.pending.is_untaken.Given as goal

-- what is left of the list says what all of it says
abbrev pub invariant-loop-node : goal.invariant-loop-node
invariant-loop-node g l = list_any (λ node. not ((kept_by node.now).ended l.pid)) (drop l.node-index l.left) ≡ list_any (λ node. not ((kept_by node.now).ended l.pid)) l.left
