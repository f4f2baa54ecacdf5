-- How a world begins: the nodes of a configuration as they start, and the packets that they send then.
use Rattle.std.specs.Prelude.{◌≡◌, ◌^◌, ℕ, List, [], ◌∷◌, replicate}
use Rattle.std.specs.List.{AllByRecursion-prop}
use Rattle.std.proofs.Math.Bridge.{le_prop}
use Rattle.pg_node_state.specs.PgGroup.Table.{Table}
use Rattle.pg_node_state.specs.PgExchange.GroupList.{GroupList, IsSnapshot}
use Rattle.pg_node_state.specs.PgMessageTypes.Members.{HasFewMembers}
use Rattle.pg_node_state.specs.PgMessageTypes.declared.message.Message.{Message}
use Rattle.pg_node_state.specs.PgMessageTypes.declared.packet.Packet.{Packet}
use Rattle.pg_node_state.specs.PgStep.Machines.Machine.{start_of}
use Rattle.pg_node_state.specs.PgStep.Machines.Clocked.{Stamped}
use Rattle.pg_node_state.specs.PgStep.declared.start.Start.{Start}
use Rattle.pg_node_state.specs.PgStep.Config.{Config, first_table}
use Rattle.pg_node_state.specs.PgStep.FrameMachine.{frame_machine}
use Rattle.pg_node_state.specs.PgNodeOpens.Places.{name_at}
use Rattle.pg_node_state.specs.PgNodeSends.Opening.{IsAnnouncement}
use Rattle.pg_node_state.specs.PgNodeSends.Sent.{stamped_of}
use Rattle.pg_world_config.specs.Seen.{Seen}
use Rattle.pg_world_packets.specs.Fitting.{FitsFrame}
use Rattle.pg_world_config.specs.Seen.{Seen}
use Rattle.pg_world_packets.specs.Views.{View}
use Rattle.pg_world_packets.specs.Worlds.{ShowsWorld}

-- ---- the packets

-- no group of the table has more than 2^32 members
abbrev pub TellsFew : Table → Type 0
TellsFew table = (groups : GroupList) → IsSnapshot table groups → HasFewMembers (2 ^ 32) groups

pub HasFewMembers-prop : (limit : ℕ) (groups : GroupList) → (a b : HasFewMembers limit groups) → a ≡ b
HasFewMembers-prop limit groups = AllByRecursion-prop _ (λ group. le_prop) groups

pub TellsFew-prop : (table : Table) → (a b : TellsFew table) → a ≡ b
TellsFew-prop table a b = λ i groups is. HasFewMembers-prop (2 ^ 32) groups (a groups is) (b groups is) i

-- to each of so many peers one packet is on the way, which tells all groups of the node's table and fits into a frame
abbrev pub AnnouncesToEach : ℕ → Seen → List (List (Stamped Message)) → Type 0
AnnouncesToEach peers node row = (packet : Packet) × IsAnnouncement node.state.state.table (name_at node.names 0) packet × (row ≡ replicate peers (stamped_of packet ∷ [])) × FitsFrame packet

-- the same of each node
abbrev pub AllOpen : ℕ → List Seen → List (List (List (Stamped Message))) → Type 0
AllOpen peers [] [] = Unit {0}
AllOpen peers (node ∷ nodes) (row ∷ rows) = AnnouncesToEach peers node row × AllOpen peers nodes rows
AllOpen peers nodes rows = ⊥

-- ---- the configuration that is told

-- The same node, which starts with the same table: its groups are in the order of terms, each with its members in the order of
-- pids.
pub record IsOrdered (given start : Start) : Type 0 where
  pub name : start.name ≡ given.name
  pub made : start.made ≡ given.made
  pub ports : start.ports ≡ given.ports
  pub groups : IsSnapshot (first_table given.groups) start.groups

-- the same configuration, with the groups of each node in order, as it tells them
abbrev pub Orders : Config → Config → Type 0
Orders [] [] = Unit {0}
Orders (given ∷ others) (start ∷ starts) = IsOrdered given start × Orders others starts
Orders given config = ⊥

-- a world shows the start of a configuration, with the groups of each node in order
abbrev pub Begins : Config → View → Type 0
Begins given view = (config : Config) × Orders given config × ShowsWorld config view (start_of (frame_machine config))
