use Rattle.std.proofs.Common.{◌≤◌, true, length, arith}
use Rattle.pg_node_opens.specs.Opens.{names_of}
use Rattle.pg_node_sends.proofs.Sent.{marks_say}
use Rattle.pg_node_sends.proofs.sends.live_peers.Goals as goal

pub returns-clause-marks : goal.returns-clause-marks
returns-clause-marks c =
    let opens = c.args.opens.now in
    let within : length (names_of opens) ≤ c.loop-place.place = omega (arith, c.node_count-place-end.ensures, c.loop-place-test.false) in
    marks_say (names_of opens) opens.lost.items (λ q. true) c.loop-place.goes c.loop-place.place opens.apart within c.loop-place.invariant.marks
