use Rattle.std.proofs.Common.{◌≤◌, ◌-◌, ◌&&◌, true, length, arith}
use Rattle.pg_node_opens.specs.PgStep.Nodes.{is_peer}
use Rattle.pg_node_opens.specs.PgStep.Attempts.{asks}
use Rattle.pg_node_opens.specs.Opens.{names_of, live_of}
use Rattle.pg_node_sends.proofs.Sent.{marks_say, one_mark}
use Rattle.pg_node_sends.proofs.sends.asked_peers.Goals as goal

pub returns : goal.returns
returns c =
    let opens = c.args.opens.now in
    let within : length (names_of opens) ≤ c.loop-place.place = omega (arith, c.node_count-place-end.ensures, c.loop-place-test.false) in
    λ op update first st is. marks_say (names_of opens) opens.lost.items (asks (λ q. true) st) c.loop-place.goes c.loop-place.place opens.apart within (c.loop-place.invariant op update first st is)

pub loop-place-preserved : goal.loop-place-preserved
loop-place-preserved c = λ op update first st is.
    let opens = c.args.opens.now in
    one_mark (λ q. is_peer (live_of opens) q && asks (λ q. true) st q) (names_of opens) c.loop-place.goes c.with_or_without-goes.result (c.loop-place.place - 1) c.loop-place.place c.is_asked_by-asks.result
    (omega (arith, c.loop-place.auto.place)) (c.is_asked_by-asks.ensures.peer op update first st is (omega (arith, c.loop-place.auto.place))) c.with_or_without-goes.ensures (c.loop-place.invariant op update first st is)
