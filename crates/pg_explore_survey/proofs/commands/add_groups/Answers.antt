use Rattle.std.proofs.Common.{subst}
use Rattle.std.specs.List.{flat_map}
use Rattle.std.proofs.lemmas.List.{take_all}
use Rattle.pg_explore_survey.specs.Names.{AddsNames, known_by}
use Rattle.pg_explore_survey.proofs.Naming.{adds_more}
use Rattle.pg_explore_survey.proofs.commands.add_groups.Goals as goal

pub loop-group-preserved : goal.loop-group-preserved
loop-group-preserved c =
    adds_more known_by c.args.groups.now c.loop-group.group-index c.group-item.result c.args.names.now.items c.loop-group.names.items c.add_name.new.names.items c.loop-group-test.true c.group-item.is c.loop-group.invariant
    c.in_ok-add_name.ensures

pub returns : goal.returns
returns c =
    subst (λ xs. AddsNames (flat_map known_by xs) c.args.names.now.items c.loop-group.names.items) (take_all c.loop-group.group-index c.args.groups.now c.loop-group-test.false) c.loop-group.invariant
