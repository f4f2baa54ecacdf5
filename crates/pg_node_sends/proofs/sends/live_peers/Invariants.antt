use Rattle.std.proofs.Common.{◌≡◌, ◌&&◌, ℕ, true, false}
use Rattle.pg_node_opens.specs.PgMulticall.Places.{has_of}
use Rattle.pg_node_opens.specs.PgStep.Nodes.{Node, is_peer}
use Rattle.pg_node_opens.specs.Opens.{names_of, live_of}
use Rattle.pg_node_sends.proofs.Sent.{AreMarks}
use Rattle.pg_node_sends.proofs.sends.live_peers.Given as goal

abbrev pub invariant-loop-place : goal.invariant-loop-place
invariant-loop-place l = record {
  marks : AreMarks (λ q. is_peer (live_of l.opens) q && true) (names_of l.opens) l.goes l.place;
  alone : ((q : Node) → is_peer (live_of l.opens) q ≡ false) → (place : ℕ) → has_of l.goes place ≡ false;
}
