use Rattle.std.proofs.Common.{◌≡◌, map, take}
use Rattle.pg_node_state.specs.PgStep.Machines.Clocked.{packets_of as unstamped}
use Rattle.pg_world_packets.specs.Views.{packets_of}
use Rattle.pg_world_packets.proofs.ways.Ways.is_alike.Given as goal

-- those so far are the same
abbrev pub invariant-loop-place : goal.invariant-loop-place
invariant-loop-place l = take l.place (map unstamped (map packets_of l.self.ways.items)) ≡ take l.place (map unstamped (map packets_of l.other.ways.items))
