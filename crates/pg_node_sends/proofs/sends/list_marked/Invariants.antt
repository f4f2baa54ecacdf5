use Rattle.std.proofs.Common.{◌≡◌}
use Rattle.pg_node_sends.specs.Marked.{marks_of, sent_below}
use Rattle.pg_node_sends.specs.Orders.{message_of}
use Rattle.pg_node_sends.proofs.sends.list_marked.Given as goal

abbrev pub invariant-loop-peer : goal.invariant-loop-peer
invariant-loop-peer l = l.sends.items ≡ sent_below l.clock (message_of l.order) (marks_of l.goes l.peers) l.peer
