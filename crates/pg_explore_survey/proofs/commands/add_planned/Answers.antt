use Rattle.std.proofs.Common.{subst}
use Rattle.std.specs.List.{flat_map}
use Rattle.std.proofs.lemmas.List.{take_all}
use Rattle.pg_explore_survey.specs.Names.{AddsNames, changed_by}
use Rattle.pg_explore_survey.proofs.Naming.{adds_more}
use Rattle.pg_explore_survey.proofs.commands.add_planned.Goals as goal

pub loop-planned-preserved : goal.loop-planned-preserved
loop-planned-preserved c =
    adds_more changed_by c.args.steps.now c.loop-planned.planned-index c.planned-item.result c.args.names.now.items c.loop-planned.names.items c.add_changed_group.new.names.items c.loop-planned-test.true c.planned-item.is c.loop-planned.invariant
    c.in_ok-add_changed_group.ensures

pub returns : goal.returns
returns c =
    subst (λ xs. AddsNames (flat_map changed_by xs) c.args.names.now.items c.loop-planned.names.items) (take_all c.loop-planned.planned-index c.args.steps.now c.loop-planned-test.false) c.loop-planned.invariant
