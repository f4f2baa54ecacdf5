use Rattle.std.proofs.Common.{◌≡◌, ◌<◌, ◌∙◌, ℕ, [], ◌∷◌, length, arith, subst}
use Rattle.std.proofs.Props.{props}
use Rattle.std.proofs.lemmas.List.{length-set}
use mathlib.Core.Logic.{∥∥₁_elim, ∥∥₁_map}
use Rattle.pg_world.specs.Crossings.{is_loss_in}
use Rattle.pg_world.specs.ByteWorlds.{account_of, crossing_of, given_of, lost_of, room_of}
use Rattle.pg_world.specs.BytesLosing.{ShowsLosingBytes}
use Rattle.pg_world.specs.CrossingRuns.{CrossesTo}
use Rattle.pg_world.proofs.over_bytes.Chained.{chain_all, chain_steps_more}
use Rattle.pg_world.proofs.over_bytes.RunningOn.{bytes_run_on, bytes_run_grows}
use Rattle.pg_world_packets.proofs.Running.{passes_at, reached_on}
use Rattle.pg_world_packets.proofs.Sets.{update_set}
use Rattle.pg_world.proofs.byte_world.World.run.Goals as goal

pub loop-place-preserved : goal.loop-place-preserved
loop-place-preserved g c =
    let steps = c.args.steps.now in
    let numbers = c.loop-place.numbers.items in
    let within : c.loop-place.place < length steps = omega (arith, c.loop-place-test.true, c.loop-place.auto.place-end) in
    let inside : c.loop-place.place < length numbers = omega (arith, within, c.loop-place.invariant.len) in
    record {
      len = length-set numbers c.loop-place.place c.step_number-number.result ∙ c.loop-place.invariant.len;
      given = c.step_number-number.ensures.given ∙ c.loop-place.invariant.given;
      room = c.step_number-number.ensures.room ∙ c.loop-place.invariant.room;
      lost = λ none. c.step_number-number.ensures.lost (passes_at is_loss_in steps c.loop-place.place c.index-steps-place.result within c.index-steps-place.is none) ∙ c.loop-place.invariant.lost none;
      crosses = λ config u reached shows.
          let Shown = ShowsLosingBytes config (crossing_of c.step_number-number.new.self) (account_of c.step_number-number.new.self) (lost_of c.step_number-number.new.self) in
          chain_steps_more config (room_of c.args.self.now) steps numbers c.loop-place.place c.step_number-number.result c.index-steps-place.result
          (crossing_of c.args.self.now) (crossing_of c.loop-place.self) (crossing_of c.step_number-number.new.self) u
          (ShowsLosingBytes config (crossing_of c.loop-place.self) (account_of c.loop-place.self) (lost_of c.loop-place.self)) Shown within inside c.index-steps-place.is
          (c.loop-place.invariant.crosses config u reached shows)
          (λ v events led shown. subst (λ (room : ℕ). CrossesTo config room (crossing_of c.loop-place.self) v (c.index-steps-place.result ∷ []) (c.step_number-number.result ∷ []) (crossing_of c.step_number-number.new.self) Shown) c.loop-place.invariant.room
          (c.step_number-number.ensures.crosses config v (reached_on config u v events reached led) shown));
    }

pub returns-clause-crosses : goal.returns-clause-crosses
returns-clause-crosses g c = λ config u reached shows.
    let last : c.loop-place.place ≡ length c.args.steps.now = omega (arith, c.loop-place.auto.place-end, c.loop-place-test.false) in
    chain_all config (room_of c.args.self.now) c.args.steps.now c.loop-place.numbers.items c.loop-place.place (crossing_of c.args.self.now) (crossing_of c.loop-place.self) u
    (ShowsLosingBytes config (crossing_of c.loop-place.self) (account_of c.loop-place.self) (lost_of c.loop-place.self)) last c.loop-place.invariant.len (c.loop-place.invariant.crosses config u reached shows)

pub returns-clause-runs_on : goal.returns-clause-runs_on
returns-clause-runs_on g c =
    let world = c.args.self.now in
    let new = c.loop-place.self in
    let steps = c.args.steps.now in
    let numbers = c.loop-place.numbers.items in
    let last : c.loop-place.place ≡ length steps = omega (arith, c.loop-place.auto.place-end, c.loop-place-test.false) in
    ∥∥₁_map world.past
    (bytes_run_on (given_of world) c.each_world_past_losses.ensures (room_of world) (crossing_of world) (account_of world) (lost_of world) steps numbers (crossing_of new) (account_of new) (lost_of new)
    (λ config u reached shows. chain_all config (room_of world) steps numbers c.loop-place.place (crossing_of world) (crossing_of new) u
    (ShowsLosingBytes config (crossing_of new) (account_of new) (lost_of new)) last c.loop-place.invariant.len (c.loop-place.invariant.crosses config u reached shows)))

pub returns-clause-grows : goal.returns-clause-grows
returns-clause-grows g c =
    let world = c.args.self.now in
    let new = c.loop-place.self in
    let steps = c.args.steps.now in
    let numbers = c.loop-place.numbers.items in
    let last : c.loop-place.place ≡ length steps = omega (arith, c.loop-place.auto.place-end, c.loop-place-test.false) in
    ∥∥₁_elim world.past (hlevel (update_set, props))
    (λ past. bytes_run_grows (given_of world) (room_of world) (crossing_of world) (crossing_of new) (account_of world) (account_of new) (lost_of world) (lost_of new) steps numbers
    (bytes_run_on (given_of world) c.each_world_past_losses.ensures (room_of world) (crossing_of world) (account_of world) (lost_of world) steps numbers (crossing_of new) (account_of new) (lost_of new)
    (λ config u reached shows. chain_all config (room_of world) steps numbers c.loop-place.place (crossing_of world) (crossing_of new) u
    (ShowsLosingBytes config (crossing_of new) (account_of new) (lost_of new)) last c.loop-place.invariant.len (c.loop-place.invariant.crosses config u reached shows)) past))
