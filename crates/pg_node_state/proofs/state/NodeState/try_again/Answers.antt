use Rattle.std.proofs.Common.{◌∙◌, sym, subst, arith}
use Rattle.std.specs.Prelude.{IfOk}
use Rattle.pg_node_ports.specs.PgStep.Attempts.{tried_again}
use Rattle.pg_node_ports.specs.PgStep.State.{Stage}
use Rattle.pg_node_ports.specs.PgStep.Step.{at_clock}
use Rattle.pg_node_state.specs.States.{names_of, live_of, kept_by, state_of, answers_of, Happens}
use Rattle.pg_node_state.proofs.First.{WaitsWith, waits_with}
use Rattle.pg_node_state.proofs.Retried.{closed_is, asking_is, changing_is}
use Rattle.pg_node_state.proofs.state.NodeState.try_again.Goals as goal

pub attempt-requires : goal.attempt-requires
attempt-requires g c =
    let old = c.args.self.now in
    record {
      later = omega (arith, c.requires.now.later);
      within = c.requires.now.within;
      made = omega (arith, old.made, c.requires.now.later);
      few = λ name pid. omega (arith, old.few name pid, c.requires.now.later);
      waits = sym c.stage.ensures ∙ c.in-Waiting.is;
    }

pub returns-in-Waiting-clause-happens : goal.returns-in-Waiting-clause-happens
returns-in-Waiting-clause-happens g c =
    let old = c.args.self.now in
    let waiting : WaitsWith ((kept_by old).stages c.args.op) = waits_with ((kept_by old).stages c.args.op) (sym c.stage.ensures ∙ c.in-Waiting.is) in
    subst (λ (stage : Stage). IfOk c.attempt.result (λ done. Happens (names_of old) (at_clock c.args.clock (tried_again stage (live_of old) c.args.op (kept_by old))) done (state_of c.attempt.new.self) (answers_of old) (answers_of c.attempt.new.self)))
    (sym waiting.is) (c.attempt.ensures.happens waiting.update waiting.is)

pub returns-in-Closed-clause-happens : goal.returns-in-Closed-clause-happens
returns-in-Closed-clause-happens g c =
    let old = c.args.self.now in
    subst (λ (stage : Stage). Happens (names_of old) (at_clock c.args.clock (tried_again stage (live_of old) c.args.op (kept_by old))) c.wait.result (state_of c.wait.new.self) (answers_of old) (answers_of c.wait.new.self))
    (sym (closed_is ((kept_by old).stages c.args.op) (sym c.stage.ensures ∙ c.in-Closed.is))) c.wait.ensures.happens

pub returns-in-Asking-clause-happens : goal.returns-in-Asking-clause-happens
returns-in-Asking-clause-happens g c =
    let old = c.args.self.now in
    subst (λ (stage : Stage). IfOk c.go_on_asking.result (λ done. Happens (names_of old) (at_clock c.args.clock (tried_again stage (live_of old) c.args.op (kept_by old))) done (state_of c.go_on_asking.new.self) (answers_of old) (answers_of c.go_on_asking.new.self)))
    (sym (asking_is ((kept_by old).stages c.args.op) c.in-Asking.number (sym c.stage.ensures ∙ c.in-Asking.is))) c.go_on_asking.ensures.happens

pub returns-in-Changing-clause-happens : goal.returns-in-Changing-clause-happens
returns-in-Changing-clause-happens g c =
    let old = c.args.self.now in
    subst (λ (stage : Stage). IfOk c.go_on_changing.result (λ done. Happens (names_of old) (at_clock c.args.clock (tried_again stage (live_of old) c.args.op (kept_by old))) done (state_of c.go_on_changing.new.self) (answers_of old) (answers_of c.go_on_changing.new.self)))
    (sym (changing_is ((kept_by old).stages c.args.op) c.in-Changing.number (sym c.stage.ensures ∙ c.in-Changing.is))) c.go_on_changing.ensures.happens
