use Rattle.pg_node.proofs.Linked.{IsOut}
use Rattle.pg_node.proofs.node.wires.append_marked.Given as goal

abbrev pub invariant-loop-peer : goal.invariant-loop-peer
invariant-loop-peer l = IsOut l.fn.wires.items l.frame l.marked l.peers l.peer l.wires.items
