use Rattle.std.proofs.Common.{ap, ap₂, ◌∙◌}
use Rattle.std.proofs.lemmas.Result.{IfOk-weaker}
use Rattle.clap.specs.Words.{App, with_subcommand}
use Rattle.pg_program.proofs.words.command.Goals as goal

-- one command behind the others
pub returns : goal.returns
returns c =
    let bytes_is = ap (λ (a : App). a.top) c.in_ok-bytes.ensures.app in
    let script_is = ap (λ (a : App). a.top) c.in_ok-script.ensures.app in
    let threads_is = ap (λ (a : App). a.top) c.in_ok-threads.ensures.app in
    let first_is = c.in_ok-command-2.ensures.shape c.in_ok-bytes.ensures.local ∙ ap₂ with_subcommand c.in_ok-command.ensures bytes_is in
    let second_is = c.in_ok-command-3.ensures.shape c.in_ok-script.ensures.local ∙ ap₂ with_subcommand first_is script_is in
    let serve_is = ap (λ (a : App). a.top) c.in_ok-serve.ensures.app in
    let third_is = c.in_ok-command-4.ensures.shape c.in_ok-threads.ensures.local ∙ ap₂ with_subcommand second_is threads_is in
    let fourth_is = c.in_ok-command-5.ensures.shape c.in_ok-serve.ensures.local ∙ ap₂ with_subcommand third_is serve_is in
    let explore_is = ap (λ (a : App). a.top) c.in_ok-explore.ensures.app in
    let fifth_is = c.in_ok-command-6.ensures.shape c.in_ok-explore.ensures.local ∙ ap₂ with_subcommand fourth_is explore_is in
    let node_is = ap (λ (a : App). a.top) c.in_ok-node.ensures.app in
    IfOk-weaker c.subcommand-6.result _ _ (λ m h. h.shape c.in_ok-node.ensures.local ∙ ap₂ with_subcommand fifth_is node_is) c.subcommand-6.ensures
