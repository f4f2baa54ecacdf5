use Rattle.std.proofs.Common.{◌∙◌, Option, sym, ap, subst}
use Rattle.std.specs.Prelude.{IfOk}
use Rattle.pg_node_ports.specs.PgStep.declared.answer.Reply.TheVariants.{Refused}
use Rattle.pg_node_ports.specs.PgStep.declared.command_fault.CommandFault.{CommandFault}
use Rattle.pg_node_ports.specs.PgStep.Commands.{command_by, refused}
use Rattle.pg_node_ports.specs.PgStep.Step.{at_clock}
use Rattle.pg_node_state.specs.Issued.{op_issued}
use Rattle.pg_node_state.specs.States.{names_of, live_of, kept_by, state_of, answers_of, Happens}
use Rattle.pg_node_state.proofs.state.NodeState.issue.Goals as goal

pub carry_out-requires-clause-taken : goal.carry_out-requires-clause-taken
carry_out-requires-clause-taken g c = sym c.command_fault.ensures ∙ c.in-None.is

pub returns-in-Some-clause-happens : goal.returns-in-Some-clause-happens
returns-in-Some-clause-happens g c =
    let old = c.args.self.now in
    subst (λ (fault : Option CommandFault). IfOk c.answer.result (λ done. Happens (names_of old) (at_clock c.args.clock (op_issued c.args.port (λ op s. command_by fault (live_of old) op c.args.command.now s) (kept_by old)))
    done (state_of c.answer.new.self) (answers_of old) (answers_of c.answer.new.self)))
    (sym c.in-Some.is ∙ c.command_fault.ensures) (c.answer.ensures.happens (refused c.in-Some.fault) (ap Refused c.number.ensures))

pub returns-in-None-clause-happens : goal.returns-in-None-clause-happens
returns-in-None-clause-happens g c =
    let old = c.args.self.now in
    subst (λ (fault : Option CommandFault). IfOk c.carry_out.result (λ done. Happens (names_of old) (at_clock c.args.clock (op_issued c.args.port (λ op s. command_by fault (live_of old) op c.args.command.now s) (kept_by old)))
    done (state_of c.carry_out.new.self) (answers_of old) (answers_of c.carry_out.new.self)))
    (sym c.in-None.is ∙ c.command_fault.ensures) c.carry_out.ensures.happens
