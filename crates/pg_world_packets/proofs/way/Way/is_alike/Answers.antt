use Rattle.std.proofs.Common.{◌≡◌, ◌<◌, ◌≤◌, ◌∙◌, List, length, map, refl, sym, arith}
use Rattle.pg_node_state.specs.PgMessageTypes.declared.message.Message.{Message}
use Rattle.pg_node_state.specs.PgMessageTypes.declared.packet.Packet.{Packet}
use Rattle.pg_node_state.specs.PgStep.Machines.Clocked.{Stamped}
use Rattle.pg_node_state.specs.PgNodeSends.Sent.{stamped_of}
use Rattle.pg_node_state.proofs.PgNodeOpens.Named.{clash}
use Rattle.pg_world_account.proofs.Compared.{same_more, same_at, same_all, same_length, twice_length, twice_at}
use Rattle.pg_world_packets.proofs.Messages.{message_is, message_so}
use Rattle.pg_world_packets.proofs.way.Way.is_alike.Goals as goal

abbrev said : Stamped Message → Message
said x = x.packet

abbrev said_by : Packet → Message
said_by packet = packet.message

abbrev all_said : List Packet → List Message
all_said packets = map said (map stamped_of packets)

pub returns-then-len : goal.returns-then-len
returns-then-len c =
    let packets = c.args.self.now.packets in
    let others = c.args.other.now.packets in
    let ok = packets.ok.0 in
    let other_ok = others.ok.0 in (
      λ e. absurd (clash (sym e)),
      λ h.
          let same : length packets.items ≡ length others.items = same_length said_by all_said (twice_length stamped_of said) (twice_at stamped_of said) packets.items others.items h in
          absurd (omega (arith, same, ok, other_ok, c.len.ensures, c.len-2.ensures, c.if-len.true)),
    )

pub loop-place-preserved : goal.loop-place-preserved
loop-place-preserved c =
    let packets = c.args.self.now.packets in
    let others = c.args.other.now.packets in
    let place = c.loop-place.place in
    let ok = packets.ok.0 in
    let other_ok = others.ok.0 in
    let within : place < length packets.items = omega (arith, c.loop-place-test.true, c.loop-place.auto.place-end, c.len-place-end.ensures, ok) in
    let beside : place < length others.items = omega (arith, within, ok, other_ok, c.len.ensures, c.len-2.ensures, c.if-len.false) in
    same_more said_by all_said (twice_length stamped_of said) (twice_at stamped_of said) packets.items others.items place c.index-packet.result.now c.index-twin.result.now within beside
    c.index-packet.ensures c.index-twin.ensures (message_is _ _ (sym c.same_message.ensures ∙ c.if-not-same_message.false)) c.loop-place.invariant

pub returns-then-not-same_message : goal.returns-then-not-same_message
returns-then-not-same_message c =
    let packets = c.args.self.now.packets in
    let others = c.args.other.now.packets in
    let place = c.loop-place.place in
    let ok = packets.ok.0 in
    let other_ok = others.ok.0 in
    let within : place < length packets.items = omega (arith, c.loop-place-test.true, c.loop-place.auto.place-end, c.len-place-end.ensures, ok) in
    let beside : place < length others.items = omega (arith, within, ok, other_ok, c.len.ensures, c.len-2.ensures, c.if-len.false) in (
      λ e. absurd (clash (sym e)),
      λ h. sym c.if-not-same_message.true ∙ (c.same_message.ensures ∙ message_so _ _
          (same_at said_by all_said (twice_length stamped_of said) (twice_at stamped_of said) packets.items others.items place c.index-packet.result.now c.index-twin.result.now within beside
          c.index-packet.ensures c.index-twin.ensures h)),
    )

pub returns : goal.returns
returns c =
    let packets = c.args.self.now.packets in
    let others = c.args.other.now.packets in
    let ok = packets.ok.0 in
    let other_ok = others.ok.0 in
    let count : length packets.items ≡ length others.items = omega (arith, ok, other_ok, c.len.ensures, c.len-2.ensures, c.if-len.false) in
    let past : length packets.items ≤ c.loop-place.place = omega (arith, ok, c.len-place-end.ensures, c.loop-place.auto.place-end, c.loop-place-test.false) in
    (λ e. same_all said_by all_said (twice_length stamped_of said) (twice_at stamped_of said) packets.items others.items c.loop-place.place count past c.loop-place.invariant, λ h. refl)
