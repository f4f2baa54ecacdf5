use Rattle.std.proofs.Common.{◌≡◌, take}
use Rattle.pg_world_packets.specs.Losing.{lost_of}
use Rattle.pg_world_packets.specs.Pending.{live_from, lent_as}
use Rattle.pg_world_packets.specs.Worlds.{traffic_of}
use Rattle.pg_world_packets.proofs.world.FrameNodes.live_states.Given as goal

-- the live of the nodes so far
abbrev pub invariant-loop-place : goal.invariant-loop-place
invariant-loop-place g l = lent_as l.left.items ≡ live_from 0 (take l.place (traffic_of l.self).nodes) (lost_of l.self)
