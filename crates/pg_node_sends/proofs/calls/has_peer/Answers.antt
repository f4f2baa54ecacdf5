use Rattle.std.proofs.Common.{◌≤◌, length, arith}
use Rattle.pg_node_opens.specs.Opens.{names_of}
use Rattle.pg_node_sends.proofs.Nobody.{nobody_counts}
use Rattle.pg_node_sends.proofs.calls.has_peer.Goals as goal

pub returns-clause-none : goal.returns-clause-none
returns-clause-none c =
    let opens = c.args.opens.now in
    let within : length (names_of opens) ≤ c.loop-place.place = omega (arith, c.node_count-place-end.ensures, c.loop-place-test.false) in
    λ e. nobody_counts (names_of opens) opens.lost.items c.loop-place.place within c.loop-place.invariant
