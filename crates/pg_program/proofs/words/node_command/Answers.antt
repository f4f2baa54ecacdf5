use Rattle.std.proofs.Common.{◌≡◌, false, ◌||◌, rules, ap₂, ◌∙◌}
use Rattle.std.proofs.lemmas.Result.{IfOk-weaker}
use Rattle.clap.specs.Words.{app_of, with_rule}
use Rattle.clap.specs.declared.builder.Command.TheViews.{out-Command}
use Rattle.pg_program.proofs.words.node_command.Goals as goal

-- one rule behind the others
pub returns-clause-app : goal.returns-clause-app
returns-clause-app c =
    let made_is = c.in_ok-command-2.ensures.shape c.number_option.ensures.plain ∙ ap₂ with_rule c.in_ok-command.ensures.app c.number_option.ensures.rule in
    let log_is = c.in_ok-command-3.ensures.shape c.file_option.ensures.plain ∙ ap₂ with_rule made_is c.file_option.ensures.rule in
    let label_is = c.in_ok-command-4.ensures.shape c.text_option.ensures.plain ∙ ap₂ with_rule log_is c.text_option.ensures.rule in
    let told_is : app_of c.after_help-command.result ≡ app_of c.in_ok-command-4.command = search rules in
    IfOk-weaker c.arg-4.result _ _ (λ m h. h.shape c.flag.ensures.plain ∙ ap₂ with_rule (told_is ∙ label_is) c.flag.ensures.rule) c.arg-4.ensures

-- none is of all commands
pub returns-clause-local : goal.returns-clause-local
returns-clause-local c =
    let made_none = c.in_ok-command-2.ensures.globals ∙ ap₂ (λ a b. a || b) c.in_ok-command.ensures.local c.number_option.ensures.plain in
    let log_none = c.in_ok-command-3.ensures.globals ∙ ap₂ (λ a b. a || b) made_none c.file_option.ensures.plain in
    let label_none = c.in_ok-command-4.ensures.globals ∙ ap₂ (λ a b. a || b) log_none c.text_option.ensures.plain in
    let told_none : (out-Command c.after_help-command.result).has_globals ≡ (out-Command c.in_ok-command-4.command).has_globals = search rules in
    IfOk-weaker c.arg-4.result _ _ (λ m h. h.globals ∙ ap₂ (λ a b. a || b) (told_none ∙ label_none) c.flag.ensures.plain) c.arg-4.ensures
