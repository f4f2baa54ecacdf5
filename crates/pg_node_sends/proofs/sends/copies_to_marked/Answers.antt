use Rattle.std.proofs.Common.{ap, sym, subst, ◌∙◌, ◌+◌, ◌≡◌, ◌≤◌, ◌++◌, ◌∷◌, [], Bool, true, false, length, arith}
use Rattle.pg_node_sends.proofs.Announcing.{places_below}
use Rattle.pg_node_sends.proofs.Sent.{all_sent, length_marks, sent_more, and_nothing}
use Rattle.pg_node_sends.specs.Opening.{GoToPeers}
use Rattle.pg_node_sends.specs.Sent.{sends_in}
use Rattle.pg_node_opens.specs.PgMulticall.Places.{has_of}
use Rattle.pg_node_sends.specs.Marked.{marks_of, sent_below}
use Rattle.pg_node_sends.proofs.sends.copies_to_marked.Goals as goal
use Rattle.pg_node_sends.proofs.sends.copies_to_marked.Goals.{then-has+in_ok-copy+in_ok-push, else-has}

pub returns-clause-sends : goal.returns-clause-sends
returns-clause-sends c = λ names apart same.
    let packet = c.args.packet.now in
    let marks = marks_of c.args.goes c.args.peers in
    let last : c.loop-peer.peer ≡ c.args.peers = omega (arith, c.loop-peer.auto.peer-end, c.loop-peer-test.false) in
    ap (sends_in names) (c.loop-peer.invariant ∙ ap (sent_below packet.stamp packet.message marks) (last ∙ sym (length_marks c.args.goes c.args.peers)))
    ∙ all_sent names packet.stamp packet.message marks apart (ap (λ n. n + 1) (length_marks c.args.goes c.args.peers) ∙ same)

pub returns-clause-place : goal.returns-clause-place
returns-clause-place c = λ names same.
    let packet = c.args.packet.now in
    let marks = marks_of c.args.goes c.args.peers in
    let within : c.loop-peer.peer + 1 ≤ length names = omega (arith, c.loop-peer.auto.peer-end, same) in
    subst (GoToPeers names) (sym c.loop-peer.invariant) (places_below names packet.stamp packet.message marks c.loop-peer.peer within)

pub loop-peer-preserved : goal.loop-peer-preserved
loop-peer-preserved c =
    let packet = c.args.packet.now in
    let peer = c.loop-peer.peer in
    let sends = c.loop-peer.sends.items in
    let more = λ (b : Bool) (is : b ≡ has_of c.args.goes peer). sent_more packet.stamp packet.message c.args.goes c.args.peers peer b sends c.loop-peer-test.true is c.loop-peer.invariant in
    elim c.if-has.branch [
      | then-has+in_ok-copy+in_ok-push w ↦ (λ i. (w.sends-is i).items) ∙ (w.in_ok-push.ensures.items ∙ ((λ i. sends ++ (peer, w.in_ok-copy.ensures i) ∷ []) ∙ more true w.if-has.ensures.has))
      | else-has w ↦ (λ i. (w.sends-is i).items) ∙ (sym (and_nothing sends) ∙ more false w.if-has.ensures.has)
    ]
