use Rattle.std.proofs.Common.{◌<◌, ◌∙◌, length, arith}
use Rattle.std.proofs.lemmas.List.{length-set}
use Rattle.std.proofs.lemmas.Option.{slice_get_within}
use Rattle.pg_world_packets.proofs.Sending.{same_ways, room_more}
use Rattle.pg_world_packets.proofs.ways.Ways.make_room.Goals as goal

pub returns-in_err-reserve-clause-same : goal.returns-in_err-reserve-clause-same
returns-in_err-reserve-clause-same c =
    let within : c.loop-place.place < length c.loop-place.self.ways.items = omega (arith, c.loop-place-test.true, c.loop-place.auto.place-end, c.len-place-end.ensures, c.loop-place.invariant.len) in
    same_ways c.loop-place.self.ways.items c.loop-place.place c.index_mut-way.result.now c.reserve.new.self within c.index_mut-way.ensures.value c.reserve.ensures.same ∙ c.loop-place.invariant.same

pub loop-place-preserved : goal.loop-place-preserved
loop-place-preserved c =
    let within : c.loop-place.place < length c.loop-place.self.ways.items = omega (arith, c.loop-place-test.true, c.loop-place.auto.place-end, c.len-place-end.ensures, c.loop-place.invariant.len) in
    record {
      same = same_ways c.loop-place.self.ways.items c.loop-place.place c.index_mut-way.result.now c.reserve.new.self within c.index_mut-way.ensures.value c.reserve.ensures.same ∙ c.loop-place.invariant.same;
      len = length-set c.loop-place.self.ways.items c.loop-place.place c.reserve.new.self ∙ c.loop-place.invariant.len;
      room = room_more c.loop-place.self.ways.items c.loop-place.place c.reserve.new.self c.in_ok-reserve.ensures.room c.loop-place.invariant.room;
    }

pub returns-clause-room : goal.returns-clause-room
returns-clause-room c = λ place way at.
    let within = slice_get_within c.loop-place.self.ways.items place way at in
    c.loop-place.invariant.room place way (omega (arith, within, c.loop-place-test.false, c.len-place-end.ensures, c.loop-place.invariant.len)) at
