use Rattle.std.proofs.Common.{◌≡◌, ◌+◌, ◌∙◌, ap, sym, subst}
use Rattle.pg_node_ports.specs.PgMessageTypes.declared.message.Message.{Message}
use Rattle.pg_node_ports.specs.PgMessageTypes.declared.message.Message.TheVariants.{Exchange}
use Rattle.pg_node_ports.specs.PgExchange.GroupList.{GroupList}
use Rattle.pg_node_ports.specs.PgNodeOpens.Places.{name_at}
use Rattle.pg_node_ports.specs.PgStep.Step.{step_take}
use Rattle.pg_node_state.specs.States.{names_of, nodes_of, state_of, answers_of, Comes}
use Rattle.pg_node_state.proofs.state.NodeState.take_owned_as.Goals as goal

pub returns-in-Exchange-clause-event : goal.returns-in-Exchange-clause-event
returns-in-Exchange-clause-event g c =
    let old = c.args.self.now in
    let new = c.take_exchange-taken.new.self in
    let names = names_of old in
    let is : c.args.packet.message ≡ Exchange c.in-Exchange.node c.into_vec.result.items = c.in-Exchange.is ∙ ap (λ (groups : GroupList). Exchange c.in-Exchange.node groups) (sym c.into_vec.ensures) in
    subst (λ (x : Message). Comes names (step_take (nodes_of old) (name_at names (c.args.peer + 1)) (record { stamp = c.args.packet.stamp; packet = x }) (state_of old)) c.take_exchange-taken.result (state_of new) (answers_of old) (answers_of new)) (sym is) c.take_exchange-taken.ensures.event
