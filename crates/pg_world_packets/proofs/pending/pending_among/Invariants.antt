use Rattle.std.proofs.Common.{◌≡◌, take}
use Rattle.pg_world_packets.specs.Pending.{lent_as, pending_among}
use Rattle.pg_world_packets.proofs.pending.pending_among.Given as goal

-- those of the nodes so far
abbrev pub invariant-loop-place : goal.invariant-loop-place
invariant-loop-place g l = l.pids.items ≡ pending_among (lent_as l.left) (take l.place (lent_as l.left))
