use Rattle.std.proofs.Common.{subst}
use Rattle.std.specs.List.{flat_map}
use Rattle.std.proofs.lemmas.List.{take_all}
use Rattle.pg_explore.specs.declared.plan.Plan.{Plan}
use Rattle.pg_explore_survey.specs.Names.{AddsNames, changed_by}
use Rattle.pg_explore_survey.proofs.Naming.{adds_more}
use Rattle.pg_explore_survey.proofs.commands.add_changed.Goals as goal

pub loop-plan-preserved : goal.loop-plan-preserved
loop-plan-preserved c =
    adds_more (λ (plan : Plan). flat_map changed_by plan.steps.items) c.args.plans.now c.loop-plan.plan-index c.plan-item.result c.args.names.now.items c.loop-plan.names.items c.add_planned.new.names.items c.loop-plan-test.true c.plan-item.is c.loop-plan.invariant
    (subst (λ xs. AddsNames (flat_map changed_by xs) c.loop-plan.names.items c.add_planned.new.names.items) c.as_slice.ensures.value c.in_ok-add_planned.ensures)

pub returns : goal.returns
returns c =
    subst (λ xs. AddsNames (flat_map (λ (plan : Plan). flat_map changed_by plan.steps.items) xs) c.args.names.now.items c.loop-plan.names.items) (take_all c.loop-plan.plan-index c.args.plans.now c.loop-plan-test.false) c.loop-plan.invariant
