use Rattle.std.proofs.Common.{◌≡◌, true, sym, subst, rules}
use Rattle.std.specs.Prelude.{IfOk}
use Rattle.std.specs.Option.{is_some}
use Rattle.pg_node_ports.specs.PgStep.declared.command.Command.{Command}
use Rattle.pg_node_ports.specs.PgStep.Commands.{carried_out, change_of}
use Rattle.pg_node_ports.specs.PgStep.Step.{at_clock}
use Rattle.pg_node_ports.specs.PgStep.StepLaws.{is_query}
use Rattle.pg_node_ports.specs.PgStep.Turns.{NodeTurn}
use Rattle.pg_node_state.specs.Issued.{op_issued}
use Rattle.pg_node_state.specs.States.{names_of, nodes_of, live_of, kept_by, state_of, answers_of, Happens}
use Rattle.pg_node_state.proofs.Commanded.{changes, named_by, reads_table}
use Rattle.pg_node_state.proofs.state.NodeState.carry_out.Goals as goal

pub returns-in-Create-clause-happens : goal.returns-in-Create-clause-happens
returns-in-Create-clause-happens g c =
    let old = c.args.self.now in
    let asks : is_some (change_of c.args.command.now) ≡ true = search rules in
    let is = changes c.args.command.now asks in
    subst (λ (turn : NodeTurn). IfOk c.change-in-Create.result (λ done. Happens (names_of old) (at_clock c.args.clock turn) done (state_of c.change-in-Create.new.self) (answers_of old) (answers_of c.change-in-Create.new.self)))
    (λ i. op_issued c.args.port (λ op s. is.2 (live_of old) op s i) (kept_by old)) (c.change-in-Create.ensures.happens is.0 is.1)

pub returns-in-Join-clause-happens : goal.returns-in-Join-clause-happens
returns-in-Join-clause-happens g c =
    let old = c.args.self.now in
    let asks : is_some (change_of c.args.command.now) ≡ true = search rules in
    let is = changes c.args.command.now asks in
    subst (λ (turn : NodeTurn). IfOk c.change.result (λ done. Happens (names_of old) (at_clock c.args.clock turn) done (state_of c.change.new.self) (answers_of old) (answers_of c.change.new.self)))
    (λ i. op_issued c.args.port (λ op s. is.2 (live_of old) op s i) (kept_by old)) (c.change.ensures.happens is.0 is.1)

pub returns-in-Make-clause-happens : goal.returns-in-Make-clause-happens
returns-in-Make-clause-happens g c =
    let old = c.args.self.now in
    subst (λ (x : Command). IfOk c.make_process.result (λ done. Happens (names_of old) (at_clock c.args.clock (op_issued c.args.port (λ op s. carried_out (live_of old) op x s) (kept_by old)))
    done (state_of c.make_process.new.self) (answers_of old) (answers_of c.make_process.new.self)))
    (sym c.in-Make.is) c.make_process.ensures.happens

pub returns-in-Finish-clause-happens : goal.returns-in-Finish-clause-happens
returns-in-Finish-clause-happens g c =
    let old = c.args.self.now in
    subst (λ (x : Command). IfOk c.end_process.result (λ done. Happens (names_of old) (at_clock c.args.clock (op_issued c.args.port (λ op s. carried_out (live_of old) op x s) (kept_by old)))
    done (state_of c.end_process.new.self) (answers_of old) (answers_of c.end_process.new.self)))
    (sym c.in-Finish.is) c.end_process.ensures.happens

pub returns-in_default-clause-happens : goal.returns-in_default-clause-happens
returns-in_default-clause-happens g c =
    let old = c.args.self.now in
    let query : is_query c.args.command.now ≡ true = search rules in
    subst (λ (turn : NodeTurn). IfOk c.read.result (λ done. Happens (names_of old) (at_clock c.args.clock turn) done (state_of c.read.new.self) (answers_of old) (answers_of c.read.new.self)))
    (λ i. op_issued c.args.port (λ op s. reads_table c.args.command.now query (live_of old) op s i) (kept_by old)) c.read.ensures.happens

pub change-requires-in-Create-clause-named : goal.change-requires-in-Create-clause-named
change-requires-in-Create-clause-named g c = named_by (nodes_of c.args.self.now) (kept_by c.args.self.now) c.args.command.now c.requires.taken

pub change-requires-clause-named : goal.change-requires-clause-named
change-requires-clause-named g c = named_by (nodes_of c.args.self.now) (kept_by c.args.self.now) c.args.command.now c.requires.taken
