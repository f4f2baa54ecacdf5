use Rattle.std.proofs.Common.{◌≡◌, ◌<◌, ◌∙◌, length, arith}
use Rattle.std.proofs.Props.{props}
use Rattle.std.proofs.lemmas.List.{length-set}
use mathlib.Core.Logic.{∥∥₁_elim, ∥∥₁_map}
use Rattle.pg_world_packets.specs.FrameWorlds.{given_of, lost_of, view_of}
use Rattle.pg_world_packets.specs.Losing.{ShowsLosing}
use Rattle.pg_world_packets.specs.Worlds.{is_loss}
use Rattle.pg_world_packets.proofs.Leading.{frames_run_on, run_grows}
use Rattle.pg_world_packets.proofs.Running.{all_made, passes_at, steps_more}
use Rattle.pg_world_packets.proofs.Sets.{update_set}
use Rattle.pg_world_packets.proofs.frame_world.FrameWorld.run.Goals as goal

pub loop-place-preserved : goal.loop-place-preserved
loop-place-preserved g c =
    let steps = c.args.steps.now in
    let numbers = c.loop-place.numbers.items in
    let within : c.loop-place.place < length steps = omega (arith, c.loop-place-test.true, c.loop-place.auto.place-end) in
    let inside : c.loop-place.place < length numbers = omega (arith, within, c.loop-place.invariant.len) in
    record {
      len = length-set numbers c.loop-place.place c.step_number-number.result ∙ c.loop-place.invariant.len;
      given = c.step_number-number.ensures.given ∙ c.loop-place.invariant.given;
      lost = λ none. c.step_number-number.ensures.lost (passes_at is_loss steps c.loop-place.place c.index-steps-place.result within c.index-steps-place.is none) ∙ c.loop-place.invariant.lost none;
      runs = λ config u shows.
          steps_more config steps numbers c.loop-place.place c.step_number-number.result c.index-steps-place.result u (ShowsLosing config (view_of c.loop-place.self) (lost_of c.loop-place.self))
          (ShowsLosing config (view_of c.step_number-number.new.self) (lost_of c.step_number-number.new.self)) within inside c.index-steps-place.is
          (c.loop-place.invariant.runs config u shows) (λ v events led shown. c.step_number-number.ensures.steps config v shown);
    }

pub returns-clause-runs : goal.returns-clause-runs
returns-clause-runs g c = λ config u shows.
    let last : c.loop-place.place ≡ length c.args.steps.now = omega (arith, c.loop-place.auto.place-end, c.loop-place-test.false) in
    all_made config u c.args.steps.now c.loop-place.numbers.items c.loop-place.place (ShowsLosing config (view_of c.loop-place.self) (lost_of c.loop-place.self)) last c.loop-place.invariant.len (c.loop-place.invariant.runs config u shows)

pub returns-clause-runs_on : goal.returns-clause-runs_on
returns-clause-runs_on g c =
    let world = c.args.self.now in
    let new = c.loop-place.self in
    let numbers = c.loop-place.numbers.items in
    let last : c.loop-place.place ≡ length c.args.steps.now = omega (arith, c.loop-place.auto.place-end, c.loop-place-test.false) in
    ∥∥₁_map world.past
    (frames_run_on (given_of world) c.each_world_past_losses.ensures (view_of world) (lost_of world) c.args.steps.now numbers (view_of new) (lost_of new)
    (λ config u shows. all_made config u c.args.steps.now numbers c.loop-place.place (ShowsLosing config (view_of new) (lost_of new)) last c.loop-place.invariant.len (c.loop-place.invariant.runs config u shows)))

pub returns-clause-grows : goal.returns-clause-grows
returns-clause-grows g c =
    let world = c.args.self.now in
    let new = c.loop-place.self in
    let numbers = c.loop-place.numbers.items in
    let last : c.loop-place.place ≡ length c.args.steps.now = omega (arith, c.loop-place.auto.place-end, c.loop-place-test.false) in
    ∥∥₁_elim world.past (hlevel (update_set, props))
    (λ past. run_grows (given_of world) (view_of world) (view_of new) (lost_of world) (lost_of new) c.args.steps.now numbers
    (frames_run_on (given_of world) c.each_world_past_losses.ensures (view_of world) (lost_of world) c.args.steps.now numbers (view_of new) (lost_of new)
    (λ config u shows. all_made config u c.args.steps.now numbers c.loop-place.place (ShowsLosing config (view_of new) (lost_of new)) last c.loop-place.invariant.len (c.loop-place.invariant.runs config u shows)) past))
