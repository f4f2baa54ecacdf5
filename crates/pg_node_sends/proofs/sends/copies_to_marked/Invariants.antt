use Rattle.std.proofs.Common.{◌≡◌}
use Rattle.pg_node_sends.specs.Marked.{marks_of, sent_below}
use Rattle.pg_node_sends.proofs.sends.copies_to_marked.Given as goal

abbrev pub invariant-loop-peer : goal.invariant-loop-peer
invariant-loop-peer l = l.sends.items ≡ sent_below l.packet.stamp l.packet.message (marks_of l.goes l.peers) l.peer
