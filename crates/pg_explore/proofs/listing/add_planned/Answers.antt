use Rattle.std.proofs.Common.{◌≡◌, ◌≢◌, ◌<◌, ◌≤◌, ℕ, ◌+◌, ◌-◌, Bool, true, false, List, [], ◌∷◌, ◌++◌, length}
use Rattle.std.proofs.Common.{map, take, get_or, max, refl, sym, ap, ap₂, ◌∙◌, inl, inr, subst, arith}
use Rattle.std.specs.Prelude.{Option, Some}
use Rattle.std.specs.Option.{option_copied}
use Rattle.pg_explore.specs.declared.moves.Move.{Move}
use Rattle.pg_explore.specs.declared.plan.Planned.{Planned}
use Rattle.pg_explore.specs.declared.plan.Planned.TheVariants as planned
use Rattle.pg_explore.specs.declared.strand.Strand.{Strand}
use Rattle.pg_explore.specs.Listings.{AddsOpen, IsPlannedOf}
use Rattle.pg_explore.specs.Moments.{progress_of, sight_of}
use Rattle.pg_explore.specs.Moves.{planned_next}
use Rattle.pg_explore.proofs.Opening.{losses_open, next_open, nothing_open}
use Rattle.pg_explore.proofs.listing.add_planned.Goals as goal

pub returns-in_ok-push-in-Some-Step : goal.returns-in_ok-push-in-Some-Step
returns-in_ok-push-in-Some-Step c =
    let plans = c.args.plans.now in
    let node = c.args.node in
    let sight = sight_of c.args.moment.now in
    let is = ap (λ (xs : List Strand). planned_next plans (map progress_of xs) node) (sym c.as_slice.ensures.value) ∙ sym c.planned_next.ensures ∙ (λ i. option_copied (c.in-Some-Step.is i)) ∙ ap Some c.in-Some-Step.field-0-is in
    subst (λ (xs : List Move). AddsOpen plans c.args.limits.retries sight (IsPlannedOf node) c.args.moves.now.items xs) (sym c.in_ok-push-in-Some-Step.ensures.items)
    (next_open plans c.args.limits.retries sight node _ c.args.moves.now.items c.requires.there is)

pub returns-in_ok-add_losses-in-Some-Loss : goal.returns-in_ok-add_losses-in-Some-Loss
returns-in_ok-add_losses-in-Some-Loss c =
    let plans = c.args.plans.now in
    let node = c.args.node in
    let sight = sight_of c.args.moment.now in
    let is = ap (λ (xs : List Strand). planned_next plans (map progress_of xs) node) (sym c.as_slice.ensures.value) ∙ sym c.planned_next.ensures ∙ (λ i. option_copied (c.in-Some-Loss.is i)) ∙ ap Some c.in-Some-Loss.field-0-is in
    losses_open plans c.args.limits.retries sight node c.args.moves.now.items c.add_losses.new.moves.items c.requires.there is c.in_ok-add_losses-in-Some-Loss.ensures

pub returns-in-None : goal.returns-in-None
returns-in-None c =
    let plans = c.args.plans.now in
    let node = c.args.node in
    let sight = sight_of c.args.moment.now in
    let is = ap (λ (xs : List Strand). planned_next plans (map progress_of xs) node) (sym c.as_slice.ensures.value) ∙ sym c.planned_next.ensures ∙ (λ i. option_copied (c.in-None.is i)) in
    nothing_open plans c.args.limits.retries sight node c.args.moves.now.items is
