use Rattle.std.proofs.Common.{◌≡◌, map, take}
use Rattle.pg_world_packets.specs.Alike.{without_clock}
use Rattle.pg_world_config.specs.Seen.{seen_of}
use Rattle.pg_world_packets.proofs.world.alike.are_alike.Given as goal

-- those so far are the same
abbrev pub invariant-loop-place : goal.invariant-loop-place
invariant-loop-place g l = take l.place (map without_clock (map seen_of l.nodes)) ≡ take l.place (map without_clock (map seen_of l.others))
