use Rattle.std.proofs.Common.{◌∙◌, ◌≡◌, ◌++◌, ◌∷◌, [], Bool, true, false, sym, ap, arith}
use Rattle.pg_node_opens.specs.PgMulticall.Places.{has_of}
use Rattle.pg_node_sends.specs.Marked.{marks_of, sent_below}
use Rattle.pg_node_sends.specs.Orders.{message_of}
use Rattle.pg_node_sends.proofs.Sent.{sent_more, and_nothing}
use Rattle.pg_node_sends.proofs.sends.list_marked.Goals as goal
use Rattle.pg_node_sends.proofs.sends.list_marked.Goals.{then-has+in_ok-message+in_ok-push, else-has}

pub returns-clause-sends : goal.returns-clause-sends
returns-clause-sends c =
    let last : c.loop-peer.peer ≡ c.args.peers = omega (arith, c.loop-peer.auto.peer-end, c.loop-peer-test.false) in
    c.loop-peer.invariant ∙ ap (sent_below c.args.clock (message_of c.args.order) (marks_of c.args.goes c.args.peers)) last

pub loop-peer-preserved : goal.loop-peer-preserved
loop-peer-preserved c =
    let clock = c.args.clock in
    let peer = c.loop-peer.peer in
    let sends = c.loop-peer.sends.items in
    let more = λ (b : Bool) (is : b ≡ has_of c.args.goes peer). sent_more clock (message_of c.args.order) c.args.goes c.args.peers peer b sends c.loop-peer-test.true is c.loop-peer.invariant in
    elim c.if-has.branch [
      | then-has+in_ok-message+in_ok-push w ↦ (λ i. (w.sends-is i).items)
          ∙ (w.in_ok-push.ensures.items ∙ ((λ i. sends ++ (peer, record { stamp = clock; message = w.in_ok-message.ensures i }) ∷ []) ∙ more true w.if-has.ensures.has))
      | else-has w ↦ (λ i. (w.sends-is i).items) ∙ (sym (and_nothing sends) ∙ more false w.if-has.ensures.has)
    ]
