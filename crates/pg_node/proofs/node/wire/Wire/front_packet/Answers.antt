use Rattle.std.proofs.Common.{◌^◌, length, Ok, sym, ap, ◌∙◌, arith}
use Rattle.std.specs.Option.{option_copied}
use Rattle.pg_node_state.proofs.PgFrame.Readings.{front_is_frame}
use Rattle.pg_node_state.proofs.Counts.{short}
use Rattle.pg_node.specs.Links.{link_of}
use Rattle.pg_node.proofs.Events.{broken_told}
use Rattle.pg_node.proofs.node.wire.Wire.front_packet.Goals as goal

pub returns-in-Ok-clause-few : goal.returns-in-Ok-clause-few
returns-in-Ok-clause-few c =
    let lawful = front_is_frame.lawful c.args.self.now.deframer.unread c.in-Ok-Some.body.now (sym c.in-Ok-Some.ensures.body ∙ ap (λ o. Ok (option_copied o)) c.in-Ok-Some.field-0-is) in
    short (length c.in-Ok-Some.body.now) (2 ^ 32) c.in-Ok.packet.message (omega (arith, lawful)) c.in-Ok.ensures.few

pub returns-in-Err-read_packet-clause-broken : goal.returns-in-Err-read_packet-clause-broken
returns-in-Err-read_packet-clause-broken c = λ fault seen.
    broken_told (link_of c.args.self.now) c.in-Ok-Some.body.now c.in-Err-read_packet.fault fault c.from.result
    (sym c.in-Ok-Some.ensures.body ∙ ap (λ o. Ok (option_copied o)) c.in-Ok-Some.field-0-is) c.in-Err-read_packet.ensures.told c.from.ensures seen
