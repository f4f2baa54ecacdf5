use Rattle.std.proofs.Common.{List, ℕ, sym, ap, subst, ◌∙◌}
use Rattle.pg_message_types.specs.Reading.{packet_spelled}
use Rattle.pg_message_reader.specs.Standing.{Stands}
use Rattle.pg_message_types.specs.Writing.{message_term}
use Rattle.pg_message_reader.proofs.Standing.{packet_stands, nothing_left}
use Rattle.pg_message_reader.proofs.direct.direct_packet.Goals as goal

pub returns : goal.returns
returns c =
    let message = c.in_ok-message.message in
    let last = nothing_left c.in_ok-message.rest.now (sym c.is_empty.ensures ∙ c.if-not-is_empty.false) in
    ap packet_spelled c.in_ok-rest.ensures.found
    ∙ packet_stands (record { stamp = c.in_ok-stamp.stamp; message = message }) c.in_ok-rest.rest.now c.in_ok-stamp.rest.now (c.in_ok-stamp.ensures.term 62)
    (subst (λ (rest : List ℕ). Stands 62 (message_term message) c.in_ok-stamp.rest.now rest) last c.in_ok-message.ensures.term) c.in_ok-stamp.ensures.in_time c.in_ok-message.ensures.sayable
