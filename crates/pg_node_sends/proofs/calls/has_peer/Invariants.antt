use Rattle.pg_node_opens.specs.Opens.{names_of, live_of}
use Rattle.pg_node_sends.proofs.Nobody.{NobodyBelow}
use Rattle.pg_node_sends.proofs.calls.has_peer.Given as goal

abbrev pub invariant-loop-place : goal.invariant-loop-place
invariant-loop-place l = NobodyBelow (live_of l.opens) (names_of l.opens) l.place
