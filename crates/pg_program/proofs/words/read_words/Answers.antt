use Rattle.std.proofs.Common.{◌≡◌, true, sym, ap, ◌∙◌, refl, subst}
use Rattle.std.specs.Prelude.{List, Option, map, string_bytes}
use Rattle.clap.specs.Words.{App, HasKind, Row, Text, app_of, is_simple, is_simple_and_free, fault_of, subcommand_of}
use Rattle.clap.proofs.OnLiterals.{clap_on_literals}
use Rattle.pg_program.specs.CommandLine.{AsksFor, command_line}
use Rattle.pg_program.proofs.words.read_words.Goals as goal

is_known : is_simple_and_free command_line ≡ true
unfolding clap_on_literals
is_known = refl

is_simple_known : is_simple command_line ≡ true
unfolding clap_on_literals
is_simple_known = refl

pub returns-in_ok-task_of-in-Ok-clause-asked : goal.returns-in_ok-task_of-in-Ok-clause-asked
returns-in_ok-task_of-in-Ok-clause-asked c =
    let words = map string_bytes c.args.words.now in
    let app : app_of c.in_ok-command.command ≡ command_line = c.in_ok-command.ensures in
    subst (λ (rows : Option (Text × List Row)). AsksFor rows c.in_ok-task_of-in-Ok.field-0)
    ((c.in-Ok.ensures.matches (ap is_simple app ∙ is_simple_known)).1 ∙ ap (λ (a : App). subcommand_of a words) app) c.in_ok-task_of-in-Ok.ensures

pub returns-in_ok-task_of-in-Ok-clause-refused : goal.returns-in_ok-task_of-in-Ok-clause-refused
returns-in_ok-task_of-in-Ok-clause-refused c =
    let words = map string_bytes c.args.words.now in
    let app : app_of c.in_ok-command.command ≡ command_line = c.in_ok-command.ensures in
    ap (λ (a : App). fault_of a words) (sym app) ∙ c.in-Ok.ensures.kinds (ap is_simple_and_free app ∙ is_known)

pub returns-in-Err-clause-refused : goal.returns-in-Err-clause-refused
returns-in-Err-clause-refused c =
    let words = map string_bytes c.args.words.now in
    let app : app_of c.in_ok-command.command ≡ command_line = c.in_ok-command.ensures in
    subst (λ (a : App). HasKind (fault_of a words) c.in-Err.error) app (c.in-Err.ensures.kinds (ap is_simple_and_free app ∙ is_known))
