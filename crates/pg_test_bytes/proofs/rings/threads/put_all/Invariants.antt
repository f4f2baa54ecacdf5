use Rattle.std.proofs.Common.{length, ◌≤◌, take}
use Rattle.pg_test_bytes.proofs.rings.threads.put_all.Given as goal

abbrev pub invariant-loop : goal.invariant-loop
invariant-loop g l =
    (l.count ≤ length l.bytes) × g.L.Link.accepts l.initial.link (take l.count l.bytes) l.link
