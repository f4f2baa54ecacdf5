use Rattle.std.proofs.Common.{◌∙◌, sym, ap, subst}
use Rattle.pg_node_ports.specs.PgNodeOpens.Readings.{is_lock}
use Rattle.pg_node_ports.specs.PgStep.Step.{at_clock}
use Rattle.pg_node_ports.specs.PgStep.Turns.{NodeTurn}
use Rattle.pg_node_state.specs.States.{names_of, live_of, kept_by, state_of, answers_of, Happens}
use Rattle.pg_node_state.proofs.Retried.{not_asking}
use Rattle.pg_node_state.proofs.state.NodeState.go_on_asking.Goals as goal

pub returns-in-Update-clause-happens : goal.returns-in-Update-clause-happens
returns-in-Update-clause-happens g c =
    let old = c.args.self.now in
    subst (λ (t : NodeTurn). Happens (names_of old) (at_clock c.args.clock t) c.wait.result (state_of c.wait.new.self) (answers_of old) (answers_of c.wait.new.self))
    (sym (not_asking (live_of old) c.args.number ((kept_by old).uses c.args.number) (kept_by old) (ap is_lock (sym c.gathering.ensures ∙ c.in-Update.is)))) c.wait.ensures.happens

pub returns-in-Nothing-clause-happens : goal.returns-in-Nothing-clause-happens
returns-in-Nothing-clause-happens g c =
    let old = c.args.self.now in
    subst (λ (t : NodeTurn). Happens (names_of old) (at_clock c.args.clock t) c.wait-in-Nothing.result (state_of c.wait-in-Nothing.new.self) (answers_of old) (answers_of c.wait-in-Nothing.new.self))
    (sym (not_asking (live_of old) c.args.number ((kept_by old).uses c.args.number) (kept_by old) (ap is_lock (sym c.gathering.ensures ∙ c.in-Nothing.is)))) c.wait-in-Nothing.ensures.happens
