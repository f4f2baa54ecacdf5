use Rattle.std.proofs.Common.{◌≡◌, [], map, take, length, get_or}
use Rattle.pg_world_packets.specs.FrameWorlds.{traffic_of}
use Rattle.pg_explore.proofs.losses.lens_of.Given as goal

abbrev pub invariant-loop-place : goal.invariant-loop-place
invariant-loop-place l = l.lens.items ≡ take l.place (map length (get_or (traffic_of l.moment.world).ways l.node []))
