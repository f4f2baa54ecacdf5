use Rattle.std.proofs.Common.{◌≡◌, ◌∙◌, ◌∷◌, [], true, cond}
use Rattle.std.proofs.lemmas.Result.{IfOk-weaker}
use Rattle.pg_node_opens.specs.PgStep.Machines.Clocked.{stamped}
use Rattle.pg_node_opens.specs.Opens.{names_of, live_of}
use Rattle.pg_node_opens.specs.PgStep.Nodes.{to_peers}
use Rattle.pg_node_sends.specs.Marked.{is_marked, marks_of}
use Rattle.pg_node_sends.specs.Orders.{message_of}
use Rattle.pg_node_sends.specs.Sent.{sends_in}
use Rattle.pg_node_sends.proofs.sends.to_live.Goals as goal

pub returns-clause-sends : goal.returns-clause-sends
returns-clause-sends g c =
    let names = names_of c.args.opens.now in
    let clock = c.args.clock in
    let message = message_of c.args.order in
    let peers = c.peer_count.result in
    let goes = c.live_peers-goes.result in
    IfOk-weaker c.send_marked.result (λ sends. sends_in names (g.S.Outgoing.listed sends) ≡ (λ q. stamped clock (cond (is_marked names (marks_of goes peers) q) (message ∷ []) [])))
    (λ sends. sends_in names (g.S.Outgoing.listed sends) ≡ (λ q. stamped clock (to_peers (live_of c.args.opens.now) (λ q. true) message q)))
    (λ sends e. e ∙ (λ i q. stamped clock (cond (c.live_peers-goes.ensures.marks peers c.peer_count.ensures q i) (message ∷ []) [])))
    (c.send_marked.ensures.sends names c.args.opens.now.apart c.peer_count.ensures)
