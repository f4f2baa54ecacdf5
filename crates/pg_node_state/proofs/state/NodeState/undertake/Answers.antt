use Rattle.std.proofs.Common.{◌≡◌, ◌∙◌, Bool, true, false, cond, nat_le, ap, sym, subst}
use Rattle.std.specs.Prelude.{IfOk}
use Rattle.pg_node_ports.specs.PgStep.Attempts.{attempt}
use Rattle.pg_node_ports.specs.PgStep.Commands.{OPEN_LIMIT, answer, open_command, refused}
use Rattle.pg_node_ports.specs.PgStep.declared.answer.Reply.TheVariants.{Refused}
use Rattle.pg_node_ports.specs.PgStep.declared.command_fault.CommandFault.TheVariants.{Busy}
use Rattle.pg_node_ports.specs.PgStep.Step.{at_clock}
use Rattle.pg_node_ports.specs.PgStep.Turns.{and_then}
use Rattle.pg_node_state.specs.Issued.{op_issued}
use Rattle.pg_node_state.specs.States.{names_of, live_of, kept_by, state_of, answers_of, Happens}
use Rattle.pg_node_state.proofs.state.NodeState.undertake.Goals as goal

pub returns-then-is_busy-clause-happens : goal.returns-then-is_busy-clause-happens
returns-then-is_busy-clause-happens g c = λ update is.
    let old = c.args.self.now in
    let full : nat_le OPEN_LIMIT (kept_by old).opened ≡ true = sym c.is_busy.ensures ∙ c.if-is_busy.true in
    subst (λ (b : Bool). IfOk c.answer.result (λ done. Happens (names_of old) (at_clock c.args.clock (op_issued c.args.port (λ op s. cond b (answer op (refused Busy) s) (and_then (open_command op update s) (attempt (live_of old) op update))) (kept_by old)))
    done (state_of c.answer.new.self) (answers_of old) (answers_of c.answer.new.self))) (sym full) (c.answer.ensures.happens (refused Busy) (ap Refused c.number.ensures))

pub returns-clause-happens : goal.returns-clause-happens
returns-clause-happens g c = λ update is.
    let old = c.args.self.now in
    let room : nat_le OPEN_LIMIT (kept_by old).opened ≡ false = sym c.is_busy.ensures ∙ c.if-is_busy.false in
    subst (λ (b : Bool). IfOk c.open.result (λ done. Happens (names_of old) (at_clock c.args.clock (op_issued c.args.port (λ op s. cond b (answer op (refused Busy) s) (and_then (open_command op update s) (attempt (live_of old) op update))) (kept_by old)))
    done (state_of c.open.new.self) (answers_of old) (answers_of c.open.new.self))) (sym room) (c.open.ensures.happens update is)
