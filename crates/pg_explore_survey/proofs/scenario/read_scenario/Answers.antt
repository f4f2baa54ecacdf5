use Rattle.std.proofs.Common.{◌≡◌, ◌≢◌, Err, Result, Option, ℕ, ap, ap₂, sym, subst, ◌∙◌}
use Rattle.pg_script.specs.declared.fault.LineFault.TheVariants.{OutOfMemory}
use Rattle.pg_script.specs.declared.fault.ScriptFault.{ScriptFault}
use Rattle.pg_script.specs.Scripts.{Contents}
use Rattle.pg_explore_survey.specs.Scenarios.{first_fault, without_others}
use Rattle.pg_explore_survey.proofs.scenario.read_scenario.Goals as goal

pub returns-in-Err-read_script-clause-err : goal.returns-in-Err-read_script-clause-err
returns-in-Err-read_script-clause-err c = λ n.
    let other = c.in-Ok.other in
    let fault = c.in-Err-read_script.fault in
    let known : fault.fault ≢ OutOfMemory = λ e. n (ap (λ (f : ScriptFault). f.fault) (c.first_fault.ensures.memory e) ∙ e) in
    ap₂ without_others (sym c.in-Ok.ensures) (c.in-Err-read_script.ensures.err known) ∙ ap Err (sym (c.first_fault.ensures.first known))
