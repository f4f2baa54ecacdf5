-- A world of packets that has a past, as it is seen.
use Rattle.std.specs.Prelude.{ℕ, List}
use Rattle.pg_node_state.specs.PgGroup.declared.table.GroupTable.{Ghosts}
use Rattle.pg_node_state.specs.PgStep.Config.{Config}
use Rattle.pg_world_packets.specs.declared.frame_world.FrameWorld.{FrameWorld}
use Rattle.pg_world_packets.specs.Losing as losing
use Rattle.pg_world_packets.specs.Views.{Traffic, View}
use Rattle.pg_world_packets.specs.Worlds as nodes

abbrev pub view_of : {T : Type 0} {g : Ghosts T} → FrameWorld T g → View
view_of world = nodes.view_of world.frames

abbrev pub traffic_of : {T : Type 0} {g : Ghosts T} → FrameWorld T g → Traffic
traffic_of world = nodes.traffic_of world.frames

-- its nodes that are lost
abbrev pub lost_of : {T : Type 0} {g : Ghosts T} → FrameWorld T g → List ℕ
lost_of world = losing.lost_of world.frames

-- the configuration from which it began
abbrev pub given_of : {T : Type 0} {g : Ghosts T} → FrameWorld T g → Config
given_of world = world.given.value.starts.items
