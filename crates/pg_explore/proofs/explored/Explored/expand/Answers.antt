use Rattle.std.proofs.Common.{◌≡◌, ◌≢◌, ◌<◌, ◌≤◌, ℕ, ◌+◌, ◌-◌, Bool, true, false, List, [], ◌∷◌, ◌++◌}
use Rattle.std.proofs.Common.{length, map, take, get_or, refl, sym, ap, ap₂, ◌∙◌, inl, inr, subst, arith}
use Rattle.std.proofs.lemmas.List.Elements.{Contains-get_or}
use Rattle.std.proofs.lemmas.Option.{slice_get_read}
use Rattle.std.specs.List.{Contains}
use Rattle.pg_explore.specs.declared.moves.Move.{Move}
use Rattle.std.proofs.Common.{◌↔◌}
use Rattle.std.specs.Global.{Vec}
use Rattle.pg_explore.specs.declared.explored.Arrival.{Arrival}
use Rattle.pg_explore.specs.declared.visitor.Led.{Led}
use Rattle.pg_explore.specs.Explorations.{IsOpenAt, met_of}
use Rattle.pg_explore.specs.Ways.{AreLedAt, Arrives}
use Rattle.pg_explore.proofs.Expanding.{LedBelow}
use Rattle.pg_explore.proofs.Leading.{below_leads, below_stays, led_all}
use Rattle.pg_explore.proofs.Optional.{some_is}
use Rattle.pg_explore.proofs.Reached.{can_still, there_still}
use Rattle.pg_explore.proofs.Sound.{grows_on}
use Rattle.pg_explore.proofs.explored.Explored.expand.Goals as goal
use Rattle.pg_explore.proofs.explored.Explored.expand.Goals.{in-Nowhere, in-At+in_ok-add_led-in-At}

pub lead-requires-clause-can : goal.lead-requires-clause-can
lead-requires-clause-can c =
    let moves = c.as_slice-step-items.result.now in
    let i = c.loop-step.step-index in
    let step = c.step-item.result in
    let among : Contains moves step = (i, c.loop-step-test.true, sym c.step-item.is) in
    let listed = (c.in_ok-moves.ensures step).0 (subst (λ (xs : List Move). Contains xs step) c.as_slice-step-items.ensures.value among) in
    can_still c.args.plans.now c.args.limits.retries (met_of c.args.self.now) (met_of c.loop-step.self) c.args.place step c.loop-step.invariant.grows listed

pub lead-requires-clause-place : goal.lead-requires-clause-place
lead-requires-clause-place c = there_still (met_of c.args.self.now) (met_of c.loop-step.self) c.args.place c.loop-step.invariant.grows c.requires.place

pub returns-in_err-lead-clause-grows : goal.returns-in_err-lead-clause-grows
returns-in_err-lead-clause-grows c = grows_on (met_of c.args.self.now) (met_of c.loop-step.self) (met_of c.lead.new.self) c.loop-step.invariant.grows c.lead.ensures.grows

pub returns-in_err-add_led-in-At-clause-grows : goal.returns-in_err-add_led-in-At-clause-grows
returns-in_err-add_led-in-At-clause-grows c = grows_on (met_of c.args.self.now) (met_of c.loop-step.self) (met_of c.lead.new.self) c.loop-step.invariant.grows c.lead.ensures.grows

pub returns-in-Beyond-clause-grows : goal.returns-in-Beyond-clause-grows
returns-in-Beyond-clause-grows c = grows_on (met_of c.args.self.now) (met_of c.loop-step.self) (met_of c.lead.new.self) c.loop-step.invariant.grows c.lead.ensures.grows

pub loop-step-preserved : goal.loop-step-preserved
loop-step-preserved c =
    let before = c.loop-step.invariant in
    let moves = c.as_slice-step-items.result.now in
    let i = c.loop-step.step-index in
    let step = c.step-item.result in
    let was = before.few in
    let many = c.lead.ensures.few in
    let inside = there_still (met_of c.args.self.now) (met_of c.loop-step.self) c.args.place before.grows c.requires.place in
    let at = slice_get_read moves _ i step refl c.loop-step-test.true c.step-item.is in
    let listed : Contains moves step = (i, c.loop-step-test.true, sym c.step-item.is) in
    record {
      holds = c.lead.ensures.holds;
      grows = grows_on (met_of c.args.self.now) (met_of c.loop-step.self) (met_of c.lead.new.self) before.grows c.lead.ensures.grows;
      few = omega (arith, was, many);
      lent_same = c.lead.ensures.lent ∙ before.lent_same;
      led = elim c.match-branch-4.branch as (λ _. LedBelow c.args.plans.now (met_of c.lead.new.self) c.args.place moves (i + 1) c.match-branch-4.led.items) [
        | in-Nowhere w ↦
            let here = subst (λ (a : Arrival). Arrives c.args.plans.now (met_of c.lead.new.self) c.args.place step a) w.in-Nowhere.is c.in_ok-lead.ensures.arrives in
            subst (λ (v : Vec Led). LedBelow c.args.plans.now (met_of c.lead.new.self) c.args.place moves (i + 1) v.items) (sym w.led-is)
            (below_stays c.args.plans.now (met_of c.loop-step.self) (met_of c.lead.new.self) c.args.place moves i step c.loop-step.led.items c.lead.ensures.grows inside at here before.led)
        | in-At+in_ok-add_led-in-At w ↦
            let here = subst (λ (a : Arrival). Arrives c.args.plans.now (met_of c.lead.new.self) c.args.place step a) w.in-At.is c.in_ok-lead.ensures.arrives in
            subst (λ (v : Vec Led). LedBelow c.args.plans.now (met_of c.lead.new.self) c.args.place moves (i + 1) v.items) (sym w.led-is)
            (subst (λ (ways : List Led). LedBelow c.args.plans.now (met_of c.lead.new.self) c.args.place moves (i + 1) ways) (sym w.in_ok-add_led-in-At.ensures)
            (below_leads c.args.plans.now (met_of c.loop-step.self) (met_of c.lead.new.self) c.args.place moves i step c.loop-step.led.items w.in-At.reached c.lead.ensures.grows inside at listed here before.led))
      ];
    }

pub returns-clause-led : goal.returns-clause-led
returns-clause-led c = λ ways is.
    let moves = c.as_slice-step-items.result.now in
    let old = met_of c.args.self.now in
    let new = met_of c.loop-step.self in
    subst (λ (v : Vec Led). AreLedAt c.args.plans.now c.args.limits.retries new c.args.place v.items) (some_is c.loop-step.led ways is)
    (led_all c.args.plans.now c.args.limits.retries old new c.args.place moves c.loop-step.step-index c.loop-step.led.items c.loop-step.invariant.grows c.requires.place c.loop-step-test.false
    (subst (λ (xs : List Move). (step : Move) → Contains xs step ↔ IsOpenAt c.args.plans.now c.args.limits.retries old c.args.place step) (sym c.as_slice-step-items.ensures.value) c.in_ok-moves.ensures) c.loop-step.invariant.led)
