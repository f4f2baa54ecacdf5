use Rattle.std.proofs.Common.{◌<◌, length, drop, arith}
use Rattle.std.proofs.lemmas.List.{length-map}
use Rattle.pg_world_packets.specs.Views.{packets_of}
use Rattle.pg_world_packets.proofs.Sending.{one_way}
use Rattle.pg_world_packets.proofs.ways.Ways.pass.Goals as goal

pub returns : goal.returns
returns c =
    let ways = c.args.self.now.ways.items in
    let within : c.args.peer < length ways = omega (arith, c.requires.place, length-map ways packets_of) in
    one_way ways c.args.peer c.index_mut-way.result.now c.pass.new.self (drop 1) within c.index_mut-way.ensures.value c.pass.ensures
