use Rattle.pg_ring.specs.Ends.{SameRingIn}
use Rattle.pg_test_bytes.proofs.rings.threads.receive.Given as goal

abbrev pub invariant-loop : goal.invariant-loop
invariant-loop g l = SameRingIn l.initial.inlet l.inlet
