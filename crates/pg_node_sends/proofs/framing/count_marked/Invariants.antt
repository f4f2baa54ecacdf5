use Rattle.std.proofs.Common.{◌≡◌, ◌≤◌, ℕ, length}
use Rattle.pg_node_opens.specs.PgMessageTypes.declared.message.Message.{Message}
use Rattle.pg_node_sends.specs.Marked.{marks_of, sent_below}
use Rattle.pg_node_sends.proofs.framing.count_marked.Given as goal

abbrev pub invariant-loop-peer : goal.invariant-loop-peer
invariant-loop-peer l = record {
  few : l.count ≤ l.peer;
  count : (stamp : ℕ) (message : Message) → l.count ≡ length (sent_below stamp message (marks_of l.places l.peers) l.peer);
}
