use Rattle.std.proofs.Common.{◌≡◌, ◌≤◌, ◌∙◌, ◌+◌, ◌∷◌, [], cond, length, ap, subst, sym, arith}
use Rattle.std.proofs.lemmas.Result.{IfOk-weaker}
use Rattle.pg_node_opens.specs.PgStep.Machines.Clocked.{stamped}
use Rattle.pg_node_sends.specs.Marked.{is_marked, marks_of, sent_below}
use Rattle.pg_node_sends.specs.Orders.{message_of}
use Rattle.pg_node_sends.specs.Sendable.{AreSendable}
use Rattle.pg_node_sends.specs.Sent.{sends_in}
use Rattle.pg_node_sends.proofs.Sendables.{order_small, sendable_below}
use Rattle.pg_node_sends.proofs.Sent.{marked_sent_below}
use Rattle.pg_node_sends.proofs.sends.send_marked.Goals as goal

pub returns-clause-sends : goal.returns-clause-sends
returns-clause-sends g c = λ names apart same.
    let message = message_of c.args.order in
    let marks = marks_of c.args.goes c.args.peers in
    IfOk-weaker c.to_marked.result (λ sends. g.S.Outgoing.listed sends ≡ sent_below c.args.clock message marks c.args.peers)
    (λ sends. sends_in names (g.S.Outgoing.listed sends) ≡ (λ q. stamped c.args.clock (cond (is_marked names marks q) (message ∷ []) [])))
    (λ sends e. ap (sends_in names) e ∙ marked_sent_below names c.args.clock message c.args.goes c.args.peers apart same) c.to_marked.ensures.sends

pub returns-clause-fits : goal.returns-clause-fits
returns-clause-fits g c = λ names same.
    let message = message_of c.args.order in
    let marks = marks_of c.args.goes c.args.peers in
    let within : c.args.peers + 1 ≤ length names = omega (arith, same) in
    IfOk-weaker c.to_marked.result (λ sends. g.S.Outgoing.listed sends ≡ sent_below c.args.clock message marks c.args.peers) (λ sends. AreSendable names (g.S.Outgoing.listed sends))
    (λ sends e. subst (AreSendable names) (sym e)
    (sendable_below names c.args.clock message marks c.requires.named c.requires.within (order_small c.args.order) c.args.peers within)) c.to_marked.ensures.sends
