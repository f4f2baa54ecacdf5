use Rattle.pg_ring.specs.Ends.{SameRingOut}
use Rattle.pg_test_bytes.proofs.rings.threads.send_pieces.Given as goal

abbrev pub invariant-loop : goal.invariant-loop
invariant-loop g l = SameRingOut l.initial.out l.out
