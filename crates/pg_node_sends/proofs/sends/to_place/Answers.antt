use Rattle.std.proofs.Common.{◌≡◌, ◌∙◌, ◌+◌, ◌-◌, arith}
use Rattle.std.proofs.lemmas.Result.{IfOk-weaker}
use Rattle.pg_node_opens.specs.PgStep.Machines.Clocked.{stamped}
use Rattle.pg_node_opens.specs.Places.{name_at}
use Rattle.pg_node_opens.specs.PgStep.Nodes.{to_one}
use Rattle.pg_node_sends.specs.Orders.{message_of}
use Rattle.pg_node_sends.specs.Sent.{sends_in}
use Rattle.pg_node_sends.proofs.sends.to_place.Goals as goal

pub returns-clause-sends : goal.returns-clause-sends
returns-clause-sends g c = λ names.
    let clock = c.args.clock in
    let message = message_of c.args.order in
    let back : c.args.place - 1 + 1 ≡ c.args.place = omega (arith, c.requires.peer) in
    IfOk-weaker c.send_one.result (λ sends. sends_in names (g.S.Outgoing.listed sends) ≡ (λ q. stamped clock (to_one (name_at names (c.args.place - 1 + 1)) message q)))
    (λ sends. sends_in names (g.S.Outgoing.listed sends) ≡ (λ q. stamped clock (to_one (name_at names c.args.place) message q)))
    (λ sends e. e ∙ (λ i q. stamped clock (to_one (name_at names (back i)) message q)))
    (c.send_one.ensures.sends names)
