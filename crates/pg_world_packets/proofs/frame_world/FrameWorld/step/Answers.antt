use Rattle.std.proofs.Props.{props}
use mathlib.Core.Logic.{∥∥₁_elim, ∥∥₁_map}
use Rattle.pg_world_packets.specs.FrameWorlds.{view_of, lost_of, given_of}
use Rattle.pg_world_packets.specs.Losing as losing
use Rattle.pg_world_packets.specs.Worlds as nodes
use Rattle.pg_world_packets.proofs.Leading.{frames_go_on, frames_past, step_grows}
use Rattle.pg_world_packets.proofs.Sets.{update_set}
use Rattle.pg_world_packets.proofs.frame_world.FrameWorld.step.Goals as goal

pub invariant_of-self : goal.invariant_of-self
invariant_of-self g c =
    let world = c.args.self.now in
    let new = c.step.new.self in
    record { past = ∥∥₁_map world.past (frames_past (given_of world) c.each_world_past_losses.ensures (view_of world) (lost_of world) c.args.step.now c.step.result (nodes.view_of new) (losing.lost_of new) c.step.ensures.losing c.step.ensures.formed) }

pub returns-clause-goes_on : goal.returns-clause-goes_on
returns-clause-goes_on g c =
    let world = c.args.self.now in
    let new = c.step.new.self in
    ∥∥₁_map world.past (frames_go_on (given_of world) c.each_world_past_losses.ensures (view_of world) (lost_of world) c.args.step.now c.step.result (nodes.view_of new) (losing.lost_of new) c.step.ensures.losing c.step.ensures.formed)

pub returns-clause-grows : goal.returns-clause-grows
returns-clause-grows g c =
    let world = c.args.self.now in
    let new = c.step.new.self in
    ∥∥₁_elim world.past (hlevel (update_set, props))
    (λ past. step_grows (given_of world) (view_of world) (nodes.view_of new) (lost_of world) (losing.lost_of new) c.args.step.now c.step.result
    (frames_go_on (given_of world) c.each_world_past_losses.ensures (view_of world) (lost_of world) c.args.step.now c.step.result (nodes.view_of new) (losing.lost_of new) c.step.ensures.losing c.step.ensures.formed past))
