use Rattle.std.proofs.Common.{◌≡◌, ◌≤◌, ◌+◌, ◌∙◌, ℕ, false, max, refl, sym, arith}
use Rattle.pg_node_ports.specs.PgNodeOpens.Places.{name_at}
use Rattle.pg_node_ports.specs.PgNodeOpens.Opens.{lost_of}
use Rattle.pg_node_ports.specs.PgStep.Nodes.{Node}
use Rattle.pg_node_ports.specs.PgStep.Step.{CLOCK_LIMIT}
use Rattle.pg_node_state.specs.States.{names_of, nodes_of, state_of, answers_of, announced_at}
use Rattle.pg_node_state.proofs.Coming.{groups_come}
use Rattle.pg_node_state.proofs.state.NodeState.take_exchange.Goals as goal

pub returns-clause-event : goal.returns-clause-event
returns-clause-event g c =
    let old = c.args.self.now in
    let p : Node = name_at (names_of old) (c.args.peer + 1) in
    let clock : ℕ = c.max-latest.result + 1 in
    let here : lost_of old.opens p ≡ false = sym c.is_lost.ensures ∙ c.if-is_lost.false in
    let later : clock ≡ max old.clock c.args.stamp + 1 = omega (arith, c.max-latest.ensures) in
    let within : clock ≤ CLOCK_LIMIT = omega (arith, c.if-latest-ge-MAX_STAMP.false) in
    groups_come (nodes_of old) p (announced_at c.args.stamp c.args.node.now c.args.groups.items) (state_of old) clock here later within (names_of old) c.args.node.now c.args.groups.items c.take_owned_groups.result
    (state_of c.take_owned_groups.new.self) (answers_of old) (answers_of c.take_owned_groups.new.self) refl c.take_owned_groups.ensures.bad c.take_owned_groups.ensures.fault c.take_owned_groups.ensures.told c.take_owned_groups.ensures.state c.take_owned_groups.ensures.answers
