-- The groups of a configuration have one order, in which each node tells them.
use Rattle.std.proofs.Common.{◌≡◌, ◌↔◌, ◌<◌, inl, inr, ℕ, zero, suc, true, []}
use Rattle.std.proofs.Common.{◌∷◌, length, None, refl, sym, ◌∙◌, subst, arith}
use Rattle.std.specs.Cmp.{first_so, second_so}
use Rattle.std.specs.List.{AllByRecursion}
use Rattle.pg_term.specs.declared.term.Term.{Term}
use Rattle.pg_node_state.specs.PgGroup.Scope.{anywhere}
use Rattle.pg_node_state.specs.PgGroup.Members.{IsMemberList}
use Rattle.pg_node_state.specs.PgGroup.Table.{Table}
use Rattle.pg_node_state.proofs.PgGroup.Lists.{member_list_one}
use Rattle.pg_node_state.specs.PgExchange.GroupList.{GroupList, IsSnapshot, announced_names}
use Rattle.pg_node_state.specs.PgMessageTypes.declared.message.Message.TheVariants.{Exchange}
use Rattle.pg_node_state.specs.PgMessageTypes.declared.packet.Packet.{Packet}
use Rattle.pg_node_state.specs.PgNodeSends.Opening.{IsAnnouncement}
use Rattle.pg_node_state.specs.PgNodeOpens.Places.{name_at as name_of}
use Rattle.pg_ring.specs.Capacity.{IsCapacity}
use Rattle.pg_node_state.specs.PgStep.declared.start.Start.{Start}
use Rattle.pg_node_state.specs.PgStep.Config.{Config, IsConfig, first_table, groups_at}
use Rattle.pg_node_state.specs.PgStep.Nodes.{Node}
use Rattle.pg_world_config.specs.declared.fault.WorldFault.{WorldFault}
use Rattle.pg_world_config.specs.declared.fault.WorldFault.TheVariants.{BadConfig, NameTooLarge}
use Rattle.pg_world_config.specs.declared.fault.WorldFault.TheVariants.{BadCapacity, TooLong, OutOfMemory}
use Rattle.pg_world_config.specs.Configs.{refusal_of}
use Rattle.pg_world_packets.specs.Fitting.{FitsFrame, IsOverlong}
use Rattle.pg_world_packets.specs.Openings.{FitsOpening, IsTooLong, SomeIsTooLong, CanBegin, CantBegin, are_few, have_few}
use Rattle.pg_world_config.specs.Firsts.{seen_first}
use Rattle.pg_world_packets.specs.Starts.{IsOrdered, Orders}
use Rattle.pg_world_config.specs.Seen.{Seen}
use Rattle.pg_world_packets.proofs.OneList.{names_one}

groups_one : (table : Table) (groups others : GroupList) → announced_names groups ≡ announced_names others
    → AllByRecursion (λ group. IsMemberList (table group.0) anywhere group.1) groups → AllByRecursion (λ group. IsMemberList (table group.0) anywhere group.1) others → groups ≡ others
groups_one table [] [] same a b = refl
groups_one table [] (other ∷ others) same a b = absurd cc
groups_one table (group ∷ groups) [] same a b = absurd cc
groups_one table (group ∷ groups) (other ∷ others) same a b =
    let name : group.0 ≡ other.0 = cc in
    let names : announced_names groups ≡ announced_names others = cc in
    let members : group.1 ≡ other.1 = member_list_one (table group.0) anywhere group.1 other.1 a.0 (subst (λ (n : Term). IsMemberList (table n) anywhere other.1) (sym name) b.0) in
    let rest : groups ≡ others = groups_one table groups others names a.1 b.1 in
    λ j. (name j, members j) ∷ rest j

-- a table has one snapshot
pub snapshot_one : (table : Table) (groups others : GroupList) → IsSnapshot table groups → IsSnapshot table others → groups ≡ others
snapshot_one table groups others a b =
    groups_one table groups others (names_one table (announced_names groups) (announced_names others) a.names a.ordered b.names b.ordered) a.members b.members

start_one : (given start other : Start) → IsOrdered given start → IsOrdered given other → start ≡ other
start_one given start other a b =
    let groups : start.groups ≡ other.groups = snapshot_one (first_table given.groups) start.groups other.groups a.groups b.groups in
    λ j. record { name = (a.name ∙ sym b.name) j; made = (a.made ∙ sym b.made) j; ports = (a.ports ∙ sym b.ports) j; groups = groups j }

pub ordered_once : (given config other : Config) → Orders given config → Orders given other → config ≡ other
ordered_once [] [] [] a b = refl
ordered_once [] [] (two ∷ others) a b = absurd b
ordered_once [] (one ∷ starts) other a b = absurd a
ordered_once (start ∷ given) [] other a b = absurd a
ordered_once (start ∷ given) (one ∷ starts) [] a b = absurd b
ordered_once (start ∷ given) (one ∷ starts) (two ∷ others) a b =
    let first : one ≡ two = start_one start one two a.0 b.0 in
    let rest : starts ≡ others = ordered_once given starts others a.1 b.1 in
    λ j. first j ∷ rest j

-- ---- what a configuration that can begin is not refused by

-- what a node tells is one
announced_one : (table : Table) (own : Node) (packet other : Packet) → IsAnnouncement table own packet → IsAnnouncement table own other → packet ≡ other
announced_one table own packet other a b =
    let groups : a.0 ≡ b.0 = snapshot_one table a.0 b.0 a.1 b.1 in
    a.2 ∙ ((λ j. record { stamp = 0; message = Exchange own (groups j) }) ∙ sym b.2)

both_lengths : (packet other : Packet) → packet ≡ other → IsOverlong packet → FitsFrame other → ⊥
both_lengths packet other same long fits = absurd (let l : FitsFrame packet = subst FitsFrame (sym same) fits in omega (arith, long, l))

pub fits_once : (node : Seen) → FitsOpening node → IsTooLong node → ⊥
fits_once node fits long = both_lengths long.0 fits.0 (announced_one node.state.state.table (name_of node.names 0) long.0 fits.0 long.1 fits.1) long.2 fits.2

few_each : (config : Config) (i : ℕ) → i < length config → have_few config ≡ true → are_few (groups_at config i) ≡ true
few_each [] i low few = absurd (omega (arith, low))
few_each (start ∷ config) zero low few = first_so (are_few start.groups) (have_few config) few
few_each (start ∷ config) (suc i) low few = few_each config i (omega (arith, low)) (second_so (are_few start.groups) (have_few config) few)

not_too_long : (ring : ℕ) (given : Config) → CanBegin ring given → SomeIsTooLong given → ⊥
not_too_long ring given can (i, low, inl long) = fits_once (seen_first given i) (can.fits i low) long
not_too_long ring given can (i, low, inr many) = absurd (let few = few_each given i low can.few in let clash = sym few ∙ many in cc)

pub only_memory : ((ring : ℕ) (config : Config) → (refusal_of ring config ≡ None) ↔ (IsConfig config × IsCapacity ring))
    → (ring : ℕ) (given : Config) (fault : WorldFault) → CanBegin ring given → CantBegin ring given fault → fault ≡ OutOfMemory
only_memory decided ring given OutOfMemory can cant = refl
only_memory decided ring given TooLong can cant = absurd (not_too_long ring given can cant.1)
only_memory decided ring given BadConfig can cant = absurd (let clash = sym ((decided ring given).1 (can.good, can.capacity)) ∙ cant in cc)
only_memory decided ring given NameTooLarge can cant = absurd (let clash = sym ((decided ring given).1 (can.good, can.capacity)) ∙ cant in cc)
only_memory decided ring given BadCapacity can cant = absurd (let clash = sym ((decided ring given).1 (can.good, can.capacity)) ∙ cant in cc)
