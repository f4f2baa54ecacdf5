use Rattle.std.proofs.Common.{arith}
use Rattle.pg_message_reader.proofs.Standing.{four_stand}
use Rattle.pg_message_reader.proofs.direct.large_stamp_at.Goals as goal

pub returns-clause-term : goal.returns-clause-term
returns-clause-term c = λ room.
    let split = c.in-Some in
    let parts = split.ensures.cases in
    four_stand room c.args.bytes.now c.in_ok-rest.rest.now c.from_be_bytes-stamp.result split.digits.now split.rest.now c.in_ok-rest.ensures.found
    (omega (arith, parts.2)) parts.0 parts.1 c.from_be_bytes-stamp.ensures (omega (arith, c.if-stamp-gt-MAX_STAMP.false))
