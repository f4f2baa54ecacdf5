use Rattle.std.proofs.Common.{◌≡◌, ◌≤◌, ◌+◌, ◌∙◌, ℕ, false, max, sym, arith}
use Rattle.pg_node_ports.specs.PgNodeOpens.Places.{name_at}
use Rattle.pg_node_ports.specs.PgNodeOpens.Opens.{lost_of}
use Rattle.pg_node_ports.specs.PgStep.Nodes.{Node}
use Rattle.pg_node_ports.specs.PgStep.Step.{CLOCK_LIMIT}
use Rattle.pg_node_state.specs.States.{names_of, state_of, answers_of}
use Rattle.pg_node_state.proofs.Coming.{stays_too, loss_comes}
use Rattle.pg_node_state.proofs.state.NodeState.see_loss_as.Goals as goal

pub returns-in_err-forget_peer-clause-stays : goal.returns-in_err-forget_peer-clause-stays
returns-in_err-forget_peer-clause-stays g c = stays_too c.from_residual.result c.in_err-forget_peer.ensures.stays

pub returns-clause-event : goal.returns-clause-event
returns-clause-event g c =
    let old = c.args.self.now in
    let p : Node = name_at (names_of old) (c.args.peer + 1) in
    let clock : ℕ = c.max-latest.result + 1 in
    let here : lost_of old.opens p ≡ false = sym c.is_lost.ensures ∙ c.if-is_lost.false in
    let later : clock ≡ max old.clock c.args.last + 1 = omega (arith, c.max-latest.ensures) in
    let within : clock ≤ CLOCK_LIMIT = omega (arith, c.if-latest-ge-MAX_STAMP.false) in
    loss_comes p c.args.last (state_of old) clock here later within (names_of old) c.in_ok-forget_peer.field-0 (state_of c.forget_peer.new.self) (answers_of old) (answers_of c.forget_peer.new.self)
    c.in_ok-forget_peer.ensures.told c.in_ok-forget_peer.ensures.state c.in_ok-forget_peer.ensures.answers
