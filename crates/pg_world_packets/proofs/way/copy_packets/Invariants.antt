use Rattle.std.proofs.Common.{◌≡◌, take}
use Rattle.pg_world_packets.proofs.way.copy_packets.Given as goal

-- the packets so far
abbrev pub invariant-loop-place : goal.invariant-loop-place
invariant-loop-place l = l.copies.items ≡ take l.place l.packets.items
