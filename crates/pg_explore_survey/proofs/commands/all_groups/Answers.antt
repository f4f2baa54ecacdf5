use Rattle.std.proofs.Common.{[], subst}
use Rattle.pg_explore_survey.specs.Names.{AddsNames, changed_in, known_in}
use Rattle.pg_explore_survey.proofs.Naming.{adds_then}
use Rattle.pg_explore_survey.proofs.commands.all_groups.Goals as goal

pub returns : goal.returns
returns c =
    let names = c.in_ok-names.names.items in
    adds_then (changed_in c.args.scenario.now.plans.items) (known_in c.args.scenario.now.config.starts.items) [] names c.add_known.new.names.items c.in_ok-names.ensures
    (subst (λ starts. AddsNames (known_in starts) names c.add_known.new.names.items) c.as_slice.ensures.value c.in_ok-add_known.ensures)
