use Rattle.std.proofs.Common.{◌≡◌, drop, [], get_or}
use Rattle.std.specs.Prelude.{fold}
use Rattle.pg_world_packets.specs.Alike.{without_stamps}
use Rattle.pg_world_packets.specs.FrameWorlds.{traffic_of}
use Rattle.pg_explore.specs.Numbers.{mixed_row, mixed_way}
use Rattle.pg_explore.proofs.number.with_row.Given as goal

-- the rest leads to the whole
abbrev pub invariant-loop-place : goal.invariant-loop-place
invariant-loop-place l =
    fold mixed_way l.mixed (drop l.place (without_stamps (get_or (traffic_of l.moment.world).ways l.node []))) ≡ fold mixed_way l.number (without_stamps (get_or (traffic_of l.moment.world).ways l.node []))
