use Rattle.std.proofs.Common.{◌<◌, ◌∙◌, length, arith}
use Rattle.std.proofs.lemmas.List.{length-set}
use Rattle.pg_node.proofs.Linked.{same_links, room_more}
use Rattle.pg_node.proofs.node.wires.make_room.Goals as goal

pub returns-in_err-reserve-clause-same : goal.returns-in_err-reserve-clause-same
returns-in_err-reserve-clause-same c =
    let within : c.loop-place.place < length c.loop-place.wires.items = omega (arith, c.loop-place-test.true, c.loop-place.auto.place-end, c.len-place-end.ensures, c.loop-place.invariant.len) in
    same_links c.loop-place.wires.items c.loop-place.place c.index_mut-wire.result.now c.reserve.new.self within c.index_mut-wire.ensures.value c.reserve.ensures.same ∙ c.loop-place.invariant.same

pub loop-place-preserved : goal.loop-place-preserved
loop-place-preserved c =
    let within : c.loop-place.place < length c.loop-place.wires.items = omega (arith, c.loop-place-test.true, c.loop-place.auto.place-end, c.len-place-end.ensures, c.loop-place.invariant.len) in
    record {
      same = same_links c.loop-place.wires.items c.loop-place.place c.index_mut-wire.result.now c.reserve.new.self within c.index_mut-wire.ensures.value c.reserve.ensures.same ∙ c.loop-place.invariant.same;
      len = length-set c.loop-place.wires.items c.loop-place.place c.reserve.new.self ∙ c.loop-place.invariant.len;
      room = room_more c.loop-place.wires.items c.loop-place.place c.reserve.new.self within c.in_ok-reserve.ensures.room c.loop-place.invariant.room;
    }
