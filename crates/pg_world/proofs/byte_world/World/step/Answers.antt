use Rattle.std.proofs.Props.{props}
use mathlib.Core.Logic.{∥∥₁_elim, ∥∥₁_map}
use Rattle.pg_world.specs.ByteWorlds.{account_of, crossing_of, given_of, lost_of}
use Rattle.pg_world.specs.Crossings as nodes
use Rattle.pg_world_packets.specs.PgWorldAccount.Histories as kept
use Rattle.pg_world_packets.specs.PgWorldAccount.Losses.{lost_in}
use Rattle.pg_world.proofs.over_bytes.Leading.{bytes_go_on, bytes_past, bytes_step_grows}
use Rattle.pg_world_packets.proofs.Sets.{update_set}
use Rattle.pg_world.proofs.byte_world.World.step.Goals as goal

pub invariant_of-self : goal.invariant_of-self
invariant_of-self g c =
    let world = c.args.self.now in
    let new = c.step.new.self in
    record {
      past = ∥∥₁_map world.past
          (bytes_past (given_of world) c.each_world_past_losses.ensures (crossing_of world) (account_of world) (lost_of world) c.args.step.now c.step.result
          (nodes.crossing_of new) (kept.account_of new.histories) (lost_in new.losses) c.step.ensures.losing c.step.ensures.formed);
    }

pub returns-clause-goes_on : goal.returns-clause-goes_on
returns-clause-goes_on g c =
    let world = c.args.self.now in
    let new = c.step.new.self in
    ∥∥₁_map world.past
    (bytes_go_on (given_of world) c.each_world_past_losses.ensures (crossing_of world) (account_of world) (lost_of world) c.args.step.now c.step.result
    (nodes.crossing_of new) (kept.account_of new.histories) (lost_in new.losses) c.step.ensures.losing c.step.ensures.formed)

pub returns-clause-grows : goal.returns-clause-grows
returns-clause-grows g c =
    let world = c.args.self.now in
    let new = c.step.new.self in
    ∥∥₁_elim world.past (hlevel (update_set, props))
    (λ past. bytes_step_grows (given_of world) (crossing_of world) (nodes.crossing_of new) (account_of world) (kept.account_of new.histories) (lost_of world) (lost_in new.losses) c.args.step.now c.step.result
    (bytes_go_on (given_of world) c.each_world_past_losses.ensures (crossing_of world) (account_of world) (lost_of world) c.args.step.now c.step.result
    (nodes.crossing_of new) (kept.account_of new.histories) (lost_in new.losses) c.step.ensures.losing c.step.ensures.formed past))

pub returns-clause-changes : goal.returns-clause-changes
returns-clause-changes g c =
    let world = c.args.self.now in
    c.step.ensures.changes (∥∥₁_elim world.past (hlevel props) (λ past. c.step.ensures.harmless past.config past.u (past.events, past.is.reached) past.is.shows))
