use Rattle.std.proofs.Common.{◌≡◌, map, take}
use Rattle.pg_world_packets.specs.Views.{packets_of}
use Rattle.pg_world_packets.proofs.ways.Ways.copy.Given as goal

-- the ways so far
abbrev pub invariant-loop-way : goal.invariant-loop-way
invariant-loop-way l = map packets_of l.ways.items ≡ map packets_of (take l.way-index l.self.ways.items)
