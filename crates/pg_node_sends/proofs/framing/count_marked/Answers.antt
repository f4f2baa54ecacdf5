use Rattle.std.proofs.Common.{◌≡◌, ◌∙◌, true, false, ap, length, arith}
use Rattle.pg_node_sends.specs.Marked.{marks_of, sent_below}
use Rattle.pg_node_sends.proofs.Sent.{count_more}
use Rattle.pg_node_sends.proofs.framing.count_marked.Goals as goal
use Rattle.pg_node_sends.proofs.framing.count_marked.Goals.{then-has, else-has}

pub returns : goal.returns
returns c = λ stamp message.
    let last : c.loop-peer.peer ≡ c.args.peers = omega (arith, c.loop-peer.auto.peer-end, c.loop-peer-test.false) in
    c.loop-peer.invariant.count stamp message ∙ ap (λ n. length (sent_below stamp message (marks_of c.args.places c.args.peers) n)) last

pub loop-peer-preserved : goal.loop-peer-preserved
loop-peer-preserved c =
    let peer = c.loop-peer.peer in
    let count = c.loop-peer.count in
    elim c.if-has.branch [
      | then-has w ↦ record {
        few = omega (arith, w.count-is, c.loop-peer.invariant.few);
        count = λ stamp message. w.count-is ∙ count_more stamp message c.args.places c.args.peers peer count true c.loop-peer-test.true w.if-has.ensures.has (c.loop-peer.invariant.count stamp message);
      }
      | else-has w ↦ record {
        few = omega (arith, w.count-is, c.loop-peer.invariant.few);
        count = λ stamp message. w.count-is ∙ count_more stamp message c.args.places c.args.peers peer count false c.loop-peer-test.true w.if-has.ensures.has (c.loop-peer.invariant.count stamp message);
      }
    ]
