use Rattle.std.proofs.Common.{◌≡◌, length, map}
use Rattle.pg_world_packets.specs.Views.{packets_of}
use Rattle.pg_world_packets.proofs.Shortened.{AreShortened}
use Rattle.pg_world_packets.proofs.ways.Ways.cut.Given as goal

abbrev pub invariant-loop-place : goal.invariant-loop-place
invariant-loop-place l = record {
  len : length l.self.ways.items ≡ length l.fn.self.ways.items;
  short : AreShortened l.place l.keep (map packets_of l.fn.self.ways.items) l.self.ways.items;
}
