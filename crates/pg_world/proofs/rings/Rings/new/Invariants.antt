use Rattle.std.proofs.Common.{◌≡◌, [], map, replicate}
use Rattle.std.specs.List.{All}
use Rattle.pg_world_packets.specs.PgRing.MemRing.{RingBytes}
use Rattle.pg_world.proofs.rings.Rings.new.Given as goal

abbrev pub invariant-loop : goal.invariant-loop
invariant-loop l = record {
  bytes : map (λ (r : RingBytes). r.unread) l.rings.items ≡ replicate l.counter [];
  sized : All (λ (r : RingBytes). r.capacity ≡ l.capacity) l.rings.items;
}
