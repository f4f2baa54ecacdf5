use Rattle.std.proofs.Common.{◌<◌, ◌≤◌, ℕ, [], get_or, length, map}
use Rattle.pg_world_packets.specs.Views.{packets_of}
use Rattle.pg_world_packets.proofs.ways.Ways.can_keep.Given as goal

abbrev pub invariant-loop-place : goal.invariant-loop-place
invariant-loop-place l = record {
  fits : (k : ℕ) → k < l.place → get_or l.keep k 0 ≤ length (get_or (map packets_of l.self.ways.items) k []);
}
