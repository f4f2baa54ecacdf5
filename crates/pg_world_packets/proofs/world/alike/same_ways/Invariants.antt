use Rattle.std.proofs.Common.{◌≡◌, map, take}
use Rattle.pg_world_packets.specs.Alike.{without_stamps}
use Rattle.pg_world_packets.specs.Views.{ways_of}
use Rattle.pg_world_packets.proofs.world.alike.same_ways.Given as goal

-- those so far are the same
abbrev pub invariant-loop-place : goal.invariant-loop-place
invariant-loop-place l = take l.place (map without_stamps (map ways_of l.outgoing)) ≡ take l.place (map without_stamps (map ways_of l.others))
