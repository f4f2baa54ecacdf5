use Rattle.std.proofs.Common.{◌∙◌, Option, refl, sym, subst}
use Rattle.std.specs.Prelude.{IfOk}
use Rattle.pg_node_ports.specs.PgStep.declared.answer.Reply.{Reply}
use Rattle.pg_node_ports.specs.PgStep.State.Response.{Given}
use Rattle.pg_node_ports.specs.PgStep.Commands.{change_by}
use Rattle.pg_node_ports.specs.PgStep.Step.{at_clock}
use Rattle.pg_node_state.specs.Issued.{op_issued}
use Rattle.pg_node_state.specs.States.{names_of, live_of, kept_by, state_of, answers_of, Happens}
use Rattle.pg_node_state.proofs.state.NodeState.change.Goals as goal

pub returns-in-Some-clause-happens : goal.returns-in-Some-clause-happens
returns-in-Some-clause-happens g c update is =
    let old = c.args.self.now in
    subst (λ (looked : Option Reply). IfOk c.answer.result (λ done. Happens (names_of old) (at_clock c.args.clock (op_issued c.args.port (λ op s. change_by looked (live_of old) op update s) (kept_by old)))
    done (state_of c.answer.new.self) (answers_of old) (answers_of c.answer.new.self)))
    (sym c.in-Some.is ∙ c.in_ok-reply.ensures.change update is) (c.answer.ensures.happens (Given c.in-Some.reply) refl)

pub returns-in-None-clause-happens : goal.returns-in-None-clause-happens
returns-in-None-clause-happens g c update is =
    let old = c.args.self.now in
    subst (λ (looked : Option Reply). IfOk c.undertake.result (λ done. Happens (names_of old) (at_clock c.args.clock (op_issued c.args.port (λ op s. change_by looked (live_of old) op update s) (kept_by old)))
    done (state_of c.undertake.new.self) (answers_of old) (answers_of c.undertake.new.self)))
    (sym c.in-None.is ∙ c.in_ok-reply.ensures.change update is) (c.undertake.ensures.happens update is)
