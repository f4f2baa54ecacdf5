use Rattle.std.proofs.Common.{◌≤◌, ◌-◌, ◌&&◌, length, arith}
use Rattle.pg_node_opens.specs.PgStep.Attempts.{is_yes}
use Rattle.pg_node_opens.specs.PgStep.Nodes.{is_peer}
use Rattle.pg_node_opens.specs.Opens.{names_of, live_of}
use Rattle.pg_node_sends.proofs.Sent.{marks_say, one_mark}
use Rattle.pg_node_sends.proofs.sends.granted_peers.Goals as goal

pub returns : goal.returns
returns c =
    let opens = c.args.opens.now in
    let within : length (names_of opens) ≤ c.loop-place.place = omega (arith, c.node_count-place-end.ensures, c.loop-place-test.false) in
    λ op update first st is. marks_say (names_of opens) opens.lost.items (λ q. is_yes (st q)) c.loop-place.goes c.loop-place.place opens.apart within (c.loop-place.invariant op update first st is)

pub loop-place-preserved : goal.loop-place-preserved
loop-place-preserved c = λ op update first st is.
    let opens = c.args.opens.now in
    one_mark (λ q. is_peer (live_of opens) q && is_yes (st q)) (names_of opens) c.loop-place.goes c.with_or_without-goes.result (c.loop-place.place - 1) c.loop-place.place (c.is_live.result && c.has_granted.result)
    (omega (arith, c.loop-place.auto.place)) (λ i. c.is_live.ensures i && c.has_granted.ensures op update first st is i) c.with_or_without-goes.ensures (c.loop-place.invariant op update first st is)
