use Rattle.std.proofs.Common.{take}
use Rattle.std.specs.List.{flat_map}
use Rattle.pg_explore.specs.declared.plan.Plan.{Plan}
use Rattle.pg_explore_survey.specs.Names.{AddsNames, changed_by}
use Rattle.pg_explore_survey.proofs.commands.add_changed.Given as goal

-- those of the first
abbrev pub invariant-loop-plan : goal.invariant-loop-plan
invariant-loop-plan l = AddsNames (flat_map (λ (plan : Plan). flat_map changed_by plan.steps.items) (take l.plan-index l.plans)) l.initial.names.items l.names.items
