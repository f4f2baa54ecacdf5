use Rattle.std.proofs.Common.{◌≡◌, ◌&&◌, true}
use Rattle.pg_node_opens.specs.PgGroup.declared.update.Update.{Update}
use Rattle.pg_node_opens.specs.PgStep.declared.command.OpId.{OpId}
use Rattle.pg_node_opens.specs.PgStep.Nodes.{Node, is_peer}
use Rattle.pg_node_opens.specs.PgStep.State.{Status}
use Rattle.pg_node_opens.specs.PgStep.State.Use.{Locking}
use Rattle.pg_node_opens.specs.PgStep.Attempts.{asks}
use Rattle.pg_node_opens.specs.Opens.{names_of, live_of, uses_of}
use Rattle.pg_node_sends.proofs.Sent.{AreMarks}
use Rattle.pg_node_sends.proofs.sends.asked_peers.Given as goal

abbrev pub invariant-loop-place : goal.invariant-loop-place
invariant-loop-place l = (op : OpId) (update : Update) (first : Node) (st : Node → Status) → uses_of l.opens l.number ≡ Locking op update first st
    → AreMarks (λ q. is_peer (live_of l.opens) q && asks (λ q. true) st q) (names_of l.opens) l.goes l.place
