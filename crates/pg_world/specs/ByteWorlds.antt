-- A world of bytes that has a past, as it is seen.
use Rattle.std.specs.Prelude.{ℕ, List}
use Rattle.pg_world_packets.specs.PgGroup.declared.table.GroupTable.{Ghosts}
use Rattle.pg_world_packets.specs.PgStep.Config.{Config}
use Rattle.pg_world.specs.declared.byte_world.World.{World}
use Rattle.pg_world.specs.Crossings as nodes
use Rattle.pg_world.specs.Crossings.{Crossing}
use Rattle.pg_world_packets.specs.PgWorldAccount.Histories as kept
use Rattle.pg_world_packets.specs.PgWorldAccount.Losses.{lost_in}
use Rattle.pg_world_packets.specs.PgWorldAccount.Histories.{Account}

-- its nodes, their links, and the bytes on each ring
abbrev pub crossing_of : {T : Type 0} {g : Ghosts T} → World T g → Crossing
crossing_of world = nodes.crossing_of world.bytes

-- what it has kept of its updates
abbrev pub account_of : {T : Type 0} {g : Ghosts T} → World T g → Account
account_of world = kept.account_of world.bytes.histories

-- its nodes that are lost
abbrev pub lost_of : {T : Type 0} {g : Ghosts T} → World T g → List ℕ
lost_of world = lost_in world.bytes.losses

-- how much room each ring has, in bytes
abbrev pub room_of : {T : Type 0} {g : Ghosts T} → World T g → ℕ
room_of world = nodes.room_of world.bytes

-- the configuration from which it began
abbrev pub given_of : {T : Type 0} {g : Ghosts T} → World T g → Config
given_of world = world.given.value.starts.items
