use Rattle.std.proofs.Common.{subst}
use Rattle.std.specs.List.{flat_map}
use Rattle.std.proofs.lemmas.List.{take_all}
use Rattle.pg_script.specs.PgStep.declared.start.Start.{Start}
use Rattle.pg_explore_survey.specs.Names.{AddsNames, known_by}
use Rattle.pg_explore_survey.proofs.Naming.{adds_more}
use Rattle.pg_explore_survey.proofs.commands.add_known.Goals as goal

pub loop-start-preserved : goal.loop-start-preserved
loop-start-preserved c =
    adds_more (λ (start : Start). flat_map known_by start.groups) c.args.starts.now c.loop-start.start-index c.start-item.result c.args.names.now.items c.loop-start.names.items c.add_groups.new.names.items c.loop-start-test.true c.start-item.is c.loop-start.invariant
    (subst (λ xs. AddsNames (flat_map known_by xs) c.loop-start.names.items c.add_groups.new.names.items) c.as_slice.ensures c.in_ok-add_groups.ensures)

pub returns : goal.returns
returns c =
    subst (λ xs. AddsNames (flat_map (λ (start : Start). flat_map known_by start.groups) xs) c.args.names.now.items c.loop-start.names.items) (take_all c.loop-start.start-index c.args.starts.now c.loop-start-test.false) c.loop-start.invariant
