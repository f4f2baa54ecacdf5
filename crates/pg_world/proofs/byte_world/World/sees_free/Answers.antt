use Rattle.std.proofs.Common.{◌<◌, length, ap, sym, ◌∙◌, arith}
use Rattle.std.specs.Prelude.{Option, false, is_none}
use Rattle.std.specs.Option.{option_map_or}
use Rattle.std.proofs.Props.{props}
use Rattle.std.proofs.lemmas.List.{length-map}
use mathlib.Core.Logic.{∥∥₁_elim}
use Rattle.pg_world_packets.specs.PgNodeState.declared.state.NodeState.{NodeState}
use Rattle.pg_world_packets.specs.PgNodeState.States.{state_of}
use Rattle.pg_world.specs.ByteWorlds.{account_of, crossing_of, given_of, lost_of}
use Rattle.pg_world.specs.Crossings.{node_of}
use Rattle.pg_world_packets.specs.PgWorldConfig.Seen.{Seen}
use Rattle.pg_world.proofs.Linked.{seen_there}
use Rattle.pg_world_packets.proofs.Viewing.{none_held, none_is}
use Rattle.pg_world.proofs.over_bytes.Leading.{bytes_applied_all}
use Rattle.pg_world.proofs.byte_world.World.sees_free.Goals as goal

pub returns-clause-free : goal.returns-clause-free
returns-clause-free g c = λ config w shows.
    let bytes = c.args.self.now.bytes in
    let nodes = bytes.nodes.items in
    let within : c.args.node < length nodes = omega (arith, c.requires.place, length-map nodes node_of) in
    let over = c.index-over.result.now in
    let node = shows.nodes.each c.args.node (node_of over) (seen_there nodes bytes.rings.items c.args.node over within c.index-over.ensures) in
    let locks = ap (λ t. t.state.locks c.args.name.now) node.state in
    none_held c.holder.result c.is_none.result c.is_none.ensures ((w.node c.args.node).state.locks c.args.name.now) (c.holder.ensures ∙ (ap (λ (s : NodeState _ _). (state_of s).state.locks c.args.name.now) c.state.ensures ∙ sym locks))

pub returns-clause-applied : goal.returns-clause-applied
returns-clause-applied g c = λ free none i inside.
    let world = c.args.self.now in
    let bytes = world.bytes in
    let nodes = bytes.nodes.items in
    let within : c.args.node < length nodes = omega (arith, c.requires.place, length-map nodes node_of) in
    let over = c.index-over.result.now in
    let at = seen_there nodes bytes.rings.items c.args.node over within c.index-over.ensures in
    let unheld = (none_held c.holder.result c.is_none.result c.is_none.ensures ((node_of over).state.state.locks c.args.name.now) (c.holder.ensures ∙ ap (λ (s : NodeState _ _). (state_of s).state.locks c.args.name.now) c.state.ensures)).0 free in
    ∥∥₁_elim world.past (hlevel props) (λ past. bytes_applied_all (given_of world) (crossing_of world) (account_of world) (lost_of world) c.args.node (node_of over) c.args.name.now past none at unheld c.requires.place i inside)

pub returns-clause-sees : goal.returns-clause-sees
returns-clause-sees g c =
    let bytes = c.args.self.now.bytes in
    let nodes = bytes.nodes.items in
    let within : c.args.node < length nodes = omega (arith, c.requires.place, length-map nodes node_of) in
    let over = c.index-over.result.now in
    let at = seen_there nodes bytes.rings.items c.args.node over within c.index-over.ensures in
    none_is c.holder.result c.is_none.result c.is_none.ensures ((node_of over).state.state.locks c.args.name.now) (c.holder.ensures ∙ ap (λ (s : NodeState _ _). (state_of s).state.locks c.args.name.now) c.state.ensures) ∙ sym (ap (λ (o : Option Seen). option_map_or (λ (node : Seen). is_none (node.state.state.locks c.args.name.now)) o false) at)
