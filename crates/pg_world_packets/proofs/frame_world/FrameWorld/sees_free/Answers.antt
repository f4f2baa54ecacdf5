use Rattle.std.proofs.Common.{◌<◌, length, ap, sym, ◌∙◌, arith}
use Rattle.std.specs.Prelude.{Option, false, is_none}
use Rattle.std.specs.Option.{option_map_or}
use Rattle.std.proofs.Props.{props}
use Rattle.std.proofs.lemmas.List.{length-map}
use mathlib.Core.Logic.{∥∥₁_elim}
use Rattle.pg_node_state.specs.States.{state_of}
use Rattle.pg_world_packets.specs.FrameWorlds.{view_of, lost_of, given_of}
use Rattle.pg_world_config.specs.Seen.{Seen, seen_of}
use Rattle.pg_world_packets.proofs.Leading.{applied_all}
use Rattle.pg_world_packets.proofs.Viewing.{seen_here, none_held, none_is}
use Rattle.pg_world_packets.proofs.frame_world.FrameWorld.sees_free.Goals as goal

pub returns-clause-free : goal.returns-clause-free
returns-clause-free g c = λ config w shows.
    let frames = c.args.self.now.frames in
    let nodes = frames.nodes.items in
    let within : c.args.node < length nodes = omega (arith, c.requires.place, length-map nodes seen_of) in
    let state = c.index-state.result.now in
    let at = seen_here nodes frames.outgoing.items c.args.node frames.whole within state c.index-state.ensures in
    let node = shows.traffic.nodes.each c.args.node (seen_of state) at in
    let locks = ap (λ t. t.state.locks c.args.name.now) node.state in
    none_held c.holder.result c.is_none.result c.is_none.ensures ((w.node c.args.node).state.locks c.args.name.now) (c.holder.ensures ∙ sym locks)

pub returns-clause-applied : goal.returns-clause-applied
returns-clause-applied g c = λ free none i inside.
    let world = c.args.self.now in
    let frames = world.frames in
    let nodes = frames.nodes.items in
    let within : c.args.node < length nodes = omega (arith, c.requires.place, length-map nodes seen_of) in
    let state = c.index-state.result.now in
    let at = seen_here nodes frames.outgoing.items c.args.node frames.whole within state c.index-state.ensures in
    let unheld = (none_held c.holder.result c.is_none.result c.is_none.ensures ((state_of state).state.locks c.args.name.now) c.holder.ensures).0 free in
    ∥∥₁_elim world.past (hlevel props) (λ past. applied_all (given_of world) (view_of world) (lost_of world) c.args.node (seen_of state) c.args.name.now past none at unheld c.requires.place i inside)

pub returns-clause-sees : goal.returns-clause-sees
returns-clause-sees g c =
    let frames = c.args.self.now.frames in
    let nodes = frames.nodes.items in
    let within : c.args.node < length nodes = omega (arith, c.requires.place, length-map nodes seen_of) in
    let state = c.index-state.result.now in
    let at = seen_here nodes frames.outgoing.items c.args.node frames.whole within state c.index-state.ensures in
    none_is c.holder.result c.is_none.result c.is_none.ensures ((state_of state).state.locks c.args.name.now) c.holder.ensures ∙ sym (ap (λ (o : Option Seen). option_map_or (λ (node : Seen). is_none (node.state.state.locks c.args.name.now)) o false) at)
