use Rattle.std.proofs.Common.{List, subst}
use Rattle.std.specs.Prelude.{OnOk}
use Rattle.pg_term.specs.declared.term.Term.{Term}
use Rattle.pg_explore_survey.specs.Names.{AddsNames}
use Rattle.pg_explore_survey.proofs.commands.add_changed_group.Goals as goal

pub returns-in-Some : goal.returns-in-Some
returns-in-Some c = subst (λ (more : List Term). OnOk c.add_name.result (AddsNames more c.args.names.now.items c.add_name.new.names.items)) c.in-Some.ensures c.add_name.ensures
