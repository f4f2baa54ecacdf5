use Rattle.pg_world_packets.proofs.SeenLosses.{SeenSoFar}
use Rattle.pg_world.specs.Crossings.{crossing_of}
use Rattle.pg_world.proofs.bytes.ByteNodes.seen_by.Given as goal

-- those of the nodes so far
abbrev pub invariant-loop-peer : goal.invariant-loop-peer
invariant-loop-peer g l = SeenSoFar (crossing_of l.self).nodes l.node l.seen.items l.peer
