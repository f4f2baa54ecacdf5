use Rattle.std.proofs.Common.{◌≤◌, ◌+◌, arith}
use Rattle.pg_node_ports.specs.PgStep.Step.{CLOCK_LIMIT}
use Rattle.pg_node_state.specs.Issued.{ports_of}
use Rattle.pg_node_state.specs.States.{names_of, nodes_of, state_of, answers_of}
use Rattle.pg_node_state.proofs.Coming.{stays_too}
use Rattle.pg_node_state.proofs.Commanded.{command_comes}
use Rattle.pg_node_state.proofs.state.NodeState.command_as.Goals as goal

pub returns-in_err-issue-clause-stays : goal.returns-in_err-issue-clause-stays
returns-in_err-issue-clause-stays g c = stays_too c.from_residual.result c.in_err-issue.ensures.stays

pub returns-clause-event : goal.returns-clause-event
returns-clause-event g c =
    let old = c.args.self.now in
    let within : old.clock + 1 ≤ CLOCK_LIMIT = omega (arith, c.if-self-ge-MAX_STAMP.false) in
    command_comes (nodes_of old) (ports_of old) c.args.port c.args.command.now (state_of old) c.requires.place within (names_of old) c.in_ok-issue.field-0 (state_of c.issue.new.self) (answers_of old) (answers_of c.issue.new.self)
    c.in_ok-issue.ensures.happens
