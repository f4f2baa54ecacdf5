use Rattle.std.proofs.Common.{get_or, ap}
use Rattle.pg_explore.specs.declared.plan.Plan.{Plan}
use Rattle.pg_explore_survey.proofs.Planning.{none_added, plan_added}
use Rattle.pg_explore_survey.proofs.scenario.add_planned.Goals as goal

pub returns-in_ok-push : goal.returns-in_ok-push
returns-in_ok-push c =
    let plans = c.args.plans.now in
    let plan = get_or plans c.args.node c.index-plans-node.result in
    plan_added plans c.args.node c.args.planned plan (record { steps = c.push.new.self }) c.if-node-plans.true (ap (λ (p : Plan). get_or plans c.args.node p) c.index-plans-node.is) c.in_ok-push.ensures.items

pub returns-else-node-plans : goal.returns-else-node-plans
returns-else-node-plans c = none_added c.args.plans.now c.args.node c.args.planned c.if-node-plans.false
