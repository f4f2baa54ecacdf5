-- What a node sends as it begins.
use Rattle.std.specs.Prelude.{◌≡◌, ◌<◌, ◌+◌, ℕ, true, List, length}
use Rattle.std.specs.List.{AllByRecursion}
use Rattle.pg_node_opens.specs.PgGroup.Table.{Table}
use Rattle.pg_node_opens.specs.PgExchange.GroupList.{GroupList, IsSnapshot}
use Rattle.pg_node_opens.specs.PgStep.Machines.Clocked.{Stamped, stamped}
use Rattle.pg_node_opens.specs.PgMessageTypes.declared.message.Message.{Message}
use Rattle.pg_node_opens.specs.PgMessageTypes.declared.message.Message.TheVariants.{Exchange}
use Rattle.pg_node_opens.specs.PgMessageTypes.declared.packet.Packet.{Packet}
use Rattle.pg_node_opens.specs.PgStep.Nodes.{Node, Nodes, to_peers}

-- to each peer one packet at time 0, which tells all groups of a table
abbrev pub Announces : Table → Nodes → (Node → List (Stamped Message)) → Type 0
Announces table m sends = (groups : GroupList) × IsSnapshot table groups × (sends ≡ (λ q. stamped 0 (to_peers m (λ q. true) (Exchange m.own groups) q)))

-- each goes to the place of a peer
abbrev pub GoToPeers : List Node → List (ℕ × Packet) → Type 0
GoToPeers names sends = AllByRecursion (λ sent. sent.0 + 1 < length names) sends

-- what a node tells each peer as it begins: all groups of a table, at time 0
abbrev pub IsAnnouncement : Table → Node → Packet → Type 0
IsAnnouncement table own packet = (groups : GroupList) × IsSnapshot table groups × (packet ≡ record { stamp = 0; message = Exchange own groups })
