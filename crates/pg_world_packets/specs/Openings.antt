-- Whether what nodes tell as they begin fits, and why a world can't begin.
use Rattle.std.specs.Prelude.{◌≡◌, ◌≤◌, ◌<◌, ◌^◌, ◌⊎◌, Bool, true, false}
use Rattle.std.specs.Prelude.{nat_le, ℕ, length, slice_get, List, Some, None}
use Rattle.std.specs.List.{IsDistinct, list_all}
use Rattle.pg_term.specs.Same.{same_atom, same_term}
use Rattle.pg_node_state.specs.PgEnds.Limits.{max_processes}
use Rattle.pg_node_state.specs.PgMessageTypes.Members.{HasFewMembers}
use Rattle.pg_node_state.specs.PgGroup.Table.{Table}
use Rattle.pg_node_state.specs.PgExchange.GroupList.{GroupList, IsSnapshot, announced_names}
use Rattle.pg_node_state.specs.PgMessageTypes.declared.packet.Packet.{Packet}
use Rattle.pg_ring.specs.Capacity.{IsCapacity}
use Rattle.pg_node_state.specs.PgStep.Config.{Config, IsConfig, names_of, groups_at, made_at}
use Rattle.pg_node_state.specs.PgNodeOpens.Places.{name_at}
use Rattle.pg_node_state.specs.declared.state.fault.NodeFault.{NodeFault}
use Rattle.pg_node_state.specs.declared.state.fault.NodeFault.TheVariants as faults
use Rattle.pg_node_state.specs.PgNodeSends.Opening.{IsAnnouncement}
use Rattle.pg_world_config.specs.declared.fault.WorldFault.{WorldFault}
use Rattle.pg_world_config.specs.declared.fault.WorldFault.TheVariants.{TooLong, OutOfMemory}
use Rattle.pg_world_config.specs.Configs.{are_names, have_names, refusal_of}
use Rattle.pg_world_packets.specs.Fitting.{FitsFrame, IsOverlong}
use Rattle.pg_world_config.specs.Firsts.{seen_first}
use Rattle.pg_world_config.specs.Seen.{Seen}

-- each name of a group of the table can be sent
abbrev pub TellsNames : Table → Type 0
TellsNames table = (groups : GroupList) → IsSnapshot table groups → are_names groups ≡ true

-- what a node tells of its groups as it begins fits into a frame
abbrev pub FitsOpening : Seen → Type 0
FitsOpening node = (packet : Packet) × IsAnnouncement node.state.state.table (name_at node.names 0) packet × FitsFrame packet

-- it takes more than one
abbrev pub IsTooLong : Seen → Type 0
IsTooLong node = (packet : Packet) × IsAnnouncement node.state.state.table (name_at node.names 0) packet × IsOverlong packet

-- memory ran out, or a node's groups take more than a frame
abbrev pub CantOpen : Seen → WorldFault → Type 0
CantOpen node OutOfMemory = Unit {0}
CantOpen node TooLong = IsTooLong node
CantOpen node fault = ⊥

-- the fault by which a node can't begin, as a world tells it
abbrev pub opening_fault_of : NodeFault → WorldFault
opening_fault_of faults.OutOfMemory = OutOfMemory
opening_fault_of fault = TooLong

-- the same of some node
abbrev pub SomeCantOpen : List Seen → WorldFault → Type 0
SomeCantOpen nodes OutOfMemory = Unit {0}
SomeCantOpen nodes TooLong = (i : ℕ) × (node : Seen) × (slice_get nodes i ≡ Some node) × IsTooLong node
SomeCantOpen nodes fault = ⊥

-- what each node of a configuration tells as it begins fits into a frame
abbrev pub AllFit : Config → Type 0
AllFit config = (i : ℕ) → i < length config → FitsOpening (seen_first config i)

-- The nodes of a configuration can start: they are 16 at most, their names differ, each has made as many processes as a node may
-- and tells each group once, by a name that can be sent, with at most 2^32 members.
pub record AreReady (starts : Config) : Type 0 where
  pub nodes : length starts ≤ 16
  pub apart : IsDistinct same_atom (names_of starts)
  pub made : (i : ℕ) → made_at starts i ≤ max_processes
  pub once : (i : ℕ) → IsDistinct same_term (announced_names (groups_at starts i))
  pub few : (i : ℕ) → HasFewMembers (2 ^ 32) (groups_at starts i)
  pub named : have_names starts ≡ true

-- no group has more than 2^32 members
abbrev pub are_few : GroupList → Bool
are_few groups = list_all (λ group. nat_le (length group.1) 4294967296) groups

abbrev pub have_few : Config → Bool
have_few config = list_all (λ start. are_few start.groups) config

-- A world of a configuration, whose rings have this capacity, can begin unless memory runs out: the configuration is one, and what each
-- node tells of its groups fits into a frame, with at most 2^32 members of each group.
pub record CanBegin (ring : ℕ) (given : Config) : Type 0 where
  pub good : IsConfig given
  pub capacity : IsCapacity ring
  pub fits : AllFit given
  pub few : have_few given ≡ true

-- one of them takes more, or one of its groups has more than 2^32 members, each of which takes some bytes
abbrev pub SomeIsTooLong : Config → Type 0
SomeIsTooLong config = (i : ℕ) × (i < length config) × (IsTooLong (seen_first config i) ⊎ (are_few (groups_at config i) ≡ false))

-- Why a world of a configuration with such rings can't begin: it has no fault and no group of more than 2^32 members, and memory ran
-- out; it has no fault, but what a node tells is too long; or this is its first fault.
abbrev pub CantBegin : ℕ → Config → WorldFault → Type 0
CantBegin ring config OutOfMemory = (refusal_of ring config ≡ None) × (have_few config ≡ true)
CantBegin ring config TooLong = (refusal_of ring config ≡ None) × SomeIsTooLong config
CantBegin ring config fault = refusal_of ring config ≡ Some fault

-- the same where the configuration has no fault
abbrev pub CantStart : Config → WorldFault → Type 0
CantStart config OutOfMemory = Unit {0}
CantStart config TooLong = SomeIsTooLong config
CantStart config fault = ⊥
