use Rattle.std.proofs.Common.{◌-◌, map, take, length}
use Rattle.pg_world_config.specs.Seen.{seen_of}
use Rattle.pg_world_packets.specs.Views.{ways_of}
use Rattle.pg_world_packets.specs.Starts.{AllOpen}
use Rattle.pg_world_packets.proofs.starts.openings.Given as goal

abbrev pub invariant-loop-place : goal.invariant-loop-place
invariant-loop-place g l = AllOpen (length l.nodes - 1) (map seen_of (take l.place l.nodes)) (map ways_of l.outgoing.items)
