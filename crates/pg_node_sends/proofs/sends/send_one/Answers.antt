use Rattle.std.proofs.Common.{◌≡◌, ◌∙◌, ◌+◌, ◌∷◌, [], ap, subst, sym}
use Rattle.std.proofs.lemmas.Result.{IfOk-weaker}
use Rattle.pg_node_opens.specs.PgStep.Machines.Clocked.{stamped}
use Rattle.pg_node_opens.specs.Places.{name_at}
use Rattle.pg_node_opens.specs.PgStep.Nodes.{to_one}
use Rattle.pg_node_sends.specs.Orders.{message_of, ordered}
use Rattle.pg_node_sends.specs.Sendable.{AreSendable}
use Rattle.pg_node_sends.specs.Sent.{sends_in}
use Rattle.pg_node_sends.proofs.Sendables.{order_small, one_sendable}
use Rattle.pg_node_sends.proofs.Sent.{one_sent_to}
use Rattle.pg_node_sends.proofs.sends.send_one.Goals as goal

pub returns-clause-sends : goal.returns-clause-sends
returns-clause-sends g c = λ names.
    let packet = ordered c.args.clock c.args.order in
    IfOk-weaker c.to_one.result (λ sends. g.S.Outgoing.listed sends ≡ (c.args.peer, packet) ∷ [])
    (λ sends. sends_in names (g.S.Outgoing.listed sends) ≡ (λ q. stamped c.args.clock (to_one (name_at names (c.args.peer + 1)) (message_of c.args.order) q)))
    (λ sends e. ap (sends_in names) e ∙ one_sent_to names c.args.peer packet) c.to_one.ensures

pub returns-clause-fits : goal.returns-clause-fits
returns-clause-fits g c = λ names within.
    let packet = ordered c.args.clock c.args.order in
    IfOk-weaker c.to_one.result (λ sends. g.S.Outgoing.listed sends ≡ (c.args.peer, packet) ∷ []) (λ sends. AreSendable names (g.S.Outgoing.listed sends))
    (λ sends e. subst (AreSendable names) (sym e) (one_sendable names c.args.peer packet
    (record { place = within; named = c.requires.named; stamp = c.requires.within; small = order_small c.args.order }))) c.to_one.ensures
