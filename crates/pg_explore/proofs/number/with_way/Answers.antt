use Rattle.std.proofs.Common.{◌<◌, map, length, refl, arith}
use Rattle.std.proofs.lemmas.Option.{slice_get_read}
use Rattle.pg_world_packets.specs.PgStep.Machines.Clocked.{Stamped}
use Rattle.pg_world_packets.specs.PgMessageTypes.declared.message.Message.{Message}
use Rattle.pg_world_packets.specs.PgMessageTypes.declared.packet.Packet.{Packet}
use Rattle.pg_world_packets.specs.PgNodeSends.Sent.{stamped_of}
use Rattle.pg_explore.specs.Numbers.{mixed_message}
use Rattle.pg_explore.proofs.Counting.{fold_more, map_at}
use Rattle.pg_explore.proofs.number.with_way.Goals as goal

pub loop-place-preserved : goal.loop-place-preserved
loop-place-preserved c =
    let packets = c.args.packets.now in
    let place = c.loop-place.place in
    let ok = packets.ok.0 in
    let within : place < length packets.items = omega (arith, c.loop-place-test.true, c.loop-place.auto.place-end, c.len-place-end.ensures, ok) in
    let packet = c.index-packet.result.now in
    let said : Stamped Message → Message = λ x. x.packet in
    fold_more mixed_message (map said (map stamped_of packets.items)) place _ _ _ packet.message
    (map_at said (map stamped_of packets.items) place (stamped_of packet) (map_at stamped_of packets.items place packet (slice_get_read packets.items _ place packet refl within c.index-packet.ensures)))
    c.loop-place.invariant c.with_message-mixed.ensures
