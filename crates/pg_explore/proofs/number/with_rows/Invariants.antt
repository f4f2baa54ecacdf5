use Rattle.std.proofs.Common.{◌≡◌, drop, map}
use Rattle.std.specs.Prelude.{fold}
use Rattle.pg_world_packets.specs.Alike.{without_stamps}
use Rattle.pg_world_packets.specs.FrameWorlds.{traffic_of}
use Rattle.pg_explore.specs.Numbers.{mixed_row}
use Rattle.pg_explore.proofs.number.with_rows.Given as goal

-- the rest leads to the whole
abbrev pub invariant-loop-node : goal.invariant-loop-node
invariant-loop-node l = fold mixed_row l.mixed (drop l.node (map without_stamps (traffic_of l.moment.world).ways)) ≡ fold mixed_row l.number (map without_stamps (traffic_of l.moment.world).ways)
