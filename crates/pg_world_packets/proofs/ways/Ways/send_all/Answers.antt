use Rattle.std.proofs.Common.{◌∷◌, map, subst}
use Rattle.std.specs.Vec.Iter.{into_iter_items}
use Rattle.pg_world_packets.specs.Views.{packets_of}
use Rattle.pg_world_packets.proofs.Sending.{Sending, its_room, one_less}
use Rattle.pg_world_packets.proofs.ways.Ways.send_all.Goals as goal

pub send-requires-clause-room : goal.send-requires-clause-room
send-requires-clause-room c =
    let start = map packets_of c.args.self.now.ways.items in
    let ways = c.loop-sent.self.ways.items in
    let sends = c.args.done.sends.items in
    let others = into_iter_items c.next.new.self in
    let sending : Sending start sends ways (c.in-Some.sent ∷ others) = subst (Sending start sends ways) c.in-Some.ensures.steps.0 c.loop-sent.invariant.left in
    its_room start ways sends others c.in-Some.sent sending c.index_mut-way.result.now c.index_mut-way.ensures.value

pub loop-sent-preserved : goal.loop-sent-preserved
loop-sent-preserved c =
    let start = map packets_of c.args.self.now.ways.items in
    let ways = c.loop-sent.self.ways.items in
    let sends = c.args.done.sends.items in
    let others = into_iter_items c.next.new.self in
    let sending : Sending start sends ways (c.in-Some.sent ∷ others) = subst (Sending start sends ways) c.in-Some.ensures.steps.0 c.loop-sent.invariant.left in
    record {
      can = tt;
      finite = tt;
      left = one_less start ways sends others c.in-Some.sent sending c.index_mut-way.result.now c.send.new.self c.index_mut-way.ensures.value c.send.ensures;
    }
