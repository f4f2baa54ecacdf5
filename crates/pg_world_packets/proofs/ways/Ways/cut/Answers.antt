use Rattle.std.proofs.Common.{◌<◌, ◌∙◌, length, map, arith}
use Rattle.std.proofs.lemmas.List.{length-set}
use Rattle.pg_world_packets.specs.Views.{packets_of}
use Rattle.pg_world_packets.proofs.Shortened.{one_shortened}
use Rattle.pg_world_packets.proofs.ways.Ways.cut.Goals as goal

pub loop-place-preserved : goal.loop-place-preserved
loop-place-preserved c =
    let ways = c.loop-place.self.ways.items in
    let within : c.loop-place.place < length ways = omega (arith, c.loop-place-test.true, c.len-place-end.ensures, c.loop-place.invariant.len) in
    record {
      len = length-set ways c.loop-place.place c.cut.new.self ∙ c.loop-place.invariant.len;
      short = one_shortened c.args.keep.now (map packets_of c.args.self.now.ways.items) ways c.loop-place.place c.index_mut-way.result.now c.cut.new.self within c.index_mut-way.ensures.value c.cut.ensures c.loop-place.invariant.short;
    }
