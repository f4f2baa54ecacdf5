use Rattle.std.proofs.Common.{◌≡◌, drop, map}
use Rattle.std.specs.Prelude.{fold}
use Rattle.pg_world_packets.specs.Alike.{without_clock}
use Rattle.pg_world_packets.specs.FrameWorlds.{traffic_of}
use Rattle.pg_explore.specs.Numbers.{mixed_node}
use Rattle.pg_explore.proofs.number.with_nodes.Given as goal

-- the rest leads to the whole
abbrev pub invariant-loop-node : goal.invariant-loop-node
invariant-loop-node l = fold mixed_node l.mixed (drop l.node (map without_clock (traffic_of l.moment.world).nodes)) ≡ fold mixed_node l.number (map without_clock (traffic_of l.moment.world).nodes)
