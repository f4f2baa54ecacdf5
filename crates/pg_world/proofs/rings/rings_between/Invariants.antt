use Rattle.std.proofs.Common.{◌≡◌, ◌-◌, [], map, replicate}
use Rattle.std.specs.List.{All}
use Rattle.pg_world.specs.Rooms.{HaveRoomFor}
use Rattle.pg_world.specs.Crossings.{bytes_of}
use Rattle.pg_world.proofs.rings.rings_between.Given as goal

abbrev pub invariant-loop : goal.invariant-loop
invariant-loop l = record {
  bytes : map bytes_of l.rings.items ≡ replicate l.counter (replicate (l.nodes - 1) []);
  sized : All (HaveRoomFor l.capacity) l.rings.items;
}
