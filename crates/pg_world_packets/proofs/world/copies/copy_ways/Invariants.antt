use Rattle.std.proofs.Common.{◌≡◌, map, take}
use Rattle.pg_world_packets.specs.Views.{ways_of}
use Rattle.pg_world_packets.proofs.world.copies.copy_ways.Given as goal

-- the ways so far
abbrev pub invariant-loop-ways : goal.invariant-loop-ways
invariant-loop-ways l = map ways_of l.copies.items ≡ map ways_of (take l.ways-index l.outgoing)
