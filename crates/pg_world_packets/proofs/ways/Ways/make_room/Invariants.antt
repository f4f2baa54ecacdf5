use Rattle.std.proofs.Common.{◌≡◌, length, map}
use Rattle.pg_world_packets.specs.Views.{packets_of}
use Rattle.pg_world_packets.proofs.Sending.{RoomBelow}
use Rattle.pg_world_packets.proofs.ways.Ways.make_room.Given as goal

abbrev pub invariant-loop-place : goal.invariant-loop-place
invariant-loop-place l = record {
  same : map packets_of l.self.ways.items ≡ map packets_of l.fn.self.ways.items;
  len : length l.self.ways.items ≡ length l.fn.self.ways.items;
  room : RoomBelow l.place l.self.ways.items;
}
