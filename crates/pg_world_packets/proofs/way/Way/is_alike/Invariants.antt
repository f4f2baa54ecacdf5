use Rattle.std.proofs.Common.{◌≡◌, map, take}
use Rattle.pg_node_state.specs.PgMessageTypes.declared.message.Message.{Message}
use Rattle.pg_node_state.specs.PgStep.Machines.Clocked.{Stamped}
use Rattle.pg_node_state.specs.PgNodeSends.Sent.{stamped_of}
use Rattle.pg_world_packets.proofs.way.Way.is_alike.Given as goal

-- those so far are the same
abbrev pub invariant-loop-place : goal.invariant-loop-place
invariant-loop-place l = take l.place (map (λ (x : Stamped Message). x.packet) (map stamped_of l.self.packets.items)) ≡ take l.place (map (λ (x : Stamped Message). x.packet) (map stamped_of l.other.packets.items))
