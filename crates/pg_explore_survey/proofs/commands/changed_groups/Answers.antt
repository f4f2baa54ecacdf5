use Rattle.std.proofs.Common.{List, subst}
use Rattle.pg_term.specs.declared.term.Term.{Term}
use Rattle.pg_explore_survey.specs.Names.{AddsNames, changed_in}
use Rattle.pg_explore_survey.proofs.commands.changed_groups.Goals as goal

pub returns : goal.returns
returns c =
    subst (λ (old : List Term). AddsNames (changed_in c.args.scenario.now.plans.items) old c.add_changed.new.names.items) c.new-names.ensures.items
    (subst (λ plans. AddsNames (changed_in plans) c.new-names.result.items c.add_changed.new.names.items) c.as_slice.ensures.value c.in_ok-add_changed.ensures)
