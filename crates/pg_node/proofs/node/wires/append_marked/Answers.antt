use Rattle.std.proofs.Common.{◌≡◌, ◌∙◌, ap, sym, arith}
use Rattle.pg_node.specs.Links.{links_in, with_more}
use Rattle.pg_node_state.specs.PgNodeSends.Frames.{frames_to}
use Rattle.pg_node_state.specs.PgNodeSends.Marked.{marks_of, sent_below}
use Rattle.pg_node.proofs.Linked.{none_yet, one_more_out, marked_there, frame_short}
use Rattle.pg_node.proofs.node.wires.append_marked.Goals as goal

pub append_if-requires-clause-short : goal.append_if-requires-clause-short
append_if-requires-clause-short c = frame_short c.args.frame.now c.requires.fit.0 c.requires.fit.1

pub append_if-requires-clause-place : goal.append_if-requires-clause-place
append_if-requires-clause-place c = λ is.
    let there = marked_there _ c.args.peers c.loop-peer.peer c.args.marked c.requires.fit.0 c.loop-peer-test.true (sym c.has.ensures.has ∙ is) c.requires.fit.2 in
    omega (arith, there, c.loop-peer.invariant.len)

pub append_if-requires-clause-room : goal.append_if-requires-clause-room
append_if-requires-clause-room c = λ is.
    let there = marked_there _ c.args.peers c.loop-peer.peer c.args.marked c.requires.fit.0 c.loop-peer-test.true (sym c.has.ensures.has ∙ is) c.requires.fit.2 in
    c.loop-peer.invariant.room c.loop-peer.peer (omega arith) (omega (arith, there, c.loop-peer.invariant.len))

pub loop-peer-init : goal.loop-peer-init
loop-peer-init c = none_yet c.args.wires.now.items c.args.frame.now c.args.marked c.args.peers c.requires.room

pub loop-peer-preserved : goal.loop-peer-preserved
loop-peer-preserved c =
    one_more_out c.args.wires.now.items c.loop-peer.wires.items c.append_if.new.wires.items c.args.frame.now c.args.marked c.args.peers c.loop-peer.peer c.has.result
    c.loop-peer-test.true c.has.ensures.has c.append_if.ensures.len c.append_if.ensures.sent c.append_if.ensures.others c.loop-peer.invariant

pub returns-clause-sent : goal.returns-clause-sent
returns-clause-sent c = λ packet is place.
    let last : c.loop-peer.peer ≡ c.args.peers = omega (arith, c.loop-peer.auto.peer-end, c.loop-peer-test.false) in
    c.loop-peer.invariant.sent packet is.is place
    ∙ ap (λ n. with_more (links_in c.args.wires.now.items place) (frames_to (sent_below packet.stamp packet.message (marks_of c.args.marked c.args.peers) n) place)) last
