use Rattle.std.proofs.Common.{◌-◌, ◌+◌, List, map, take, length, subst, sym, arith}
use Rattle.pg_world_packets.specs.declared.ways.Ways.{Ways}
use Rattle.pg_world_config.specs.Seen.{seen_of}
use Rattle.pg_world_packets.specs.Views.{ways_of}
use Rattle.pg_world_packets.specs.Starts.{AllOpen}
use Rattle.pg_world_packets.proofs.Fitted.{some_cant}
use Rattle.pg_world_packets.proofs.Opened.{seen_at}
use Rattle.pg_world_packets.proofs.Starting.{opening_more}
use Rattle.pg_world_packets.proofs.starts.openings.Goals as goal

pub loop-place-preserved : goal.loop-place-preserved
loop-place-preserved g c =
    let nodes = c.args.nodes.now in
    let place = c.loop-place.place in
    subst (λ (outs : List Ways). AllOpen (length nodes - 1) (map seen_of (take (place + 1) nodes)) (map ways_of outs)) (sym c.in_ok-push-in-Ok.ensures.items)
    (opening_more (length nodes - 1) nodes c.loop-place.outgoing.items place c.index-nodes-place.result c.in-Ok.ways (omega (arith, c.loop-place-test.true, c.loop-place.auto.place-end)) c.index-nodes-place.is c.loop-place.invariant c.in-Ok.ensures.open)

pub returns-in-Err-clause-fault : goal.returns-in-Err-clause-fault
returns-in-Err-clause-fault g c =
    some_cant _ c.loop-place.place _ c.in-Err.fault (seen_at c.args.nodes.now c.loop-place.place c.index-nodes-place.result (omega (arith, c.loop-place-test.true, c.loop-place.auto.place-end)) c.index-nodes-place.is) c.in-Err.ensures.fault
