use Rattle.std.proofs.Common.{◌≡◌, take}
use Rattle.pg_world.specs.Crossings.{crossing_of}
use Rattle.pg_world_packets.specs.PgWorldAccount.Losses.{lost_in}
use Rattle.pg_world_packets.specs.Pending.{live_from, lent_as}
use Rattle.pg_world.proofs.bytes.ByteNodes.live_states.Given as goal

-- the live of the nodes so far
abbrev pub invariant-loop-place : goal.invariant-loop-place
invariant-loop-place g l = lent_as l.left.items ≡ live_from 0 (take l.place (crossing_of l.self).nodes) (lost_in l.self.losses)
