use Rattle.std.proofs.Common.{◌≡◌, drop, map, length}
use Rattle.std.specs.Prelude.{fold}
use Rattle.pg_world_packets.specs.PgNodeSends.Sent.{stamped_of}
use Rattle.pg_explore.specs.Numbers.{mixed, mixed_message, unstamped_of}
use Rattle.pg_explore.proofs.number.with_way.Given as goal

-- the rest leads to the whole
abbrev pub invariant-loop-place : goal.invariant-loop-place
invariant-loop-place l =
    let said = unstamped_of (map stamped_of l.packets.items) in
    fold mixed_message l.mixed (drop l.place said) ≡ fold mixed_message (mixed l.number (length said)) said
