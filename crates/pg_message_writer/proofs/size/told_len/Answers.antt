use Rattle.std.proofs.Common.{arith, sym, ap, ◌∙◌, Ok, length, ◌<◌, ◌≤◌, ◌≡◌}
use Rattle.pg_message_types.specs.PgTermIo.Writing.{written}
use Rattle.pg_message_types.specs.Writing.{term_of_packet, length_of}
use Rattle.pg_message_writer.specs.Told.{packet_told}
use Rattle.pg_message_writer.proofs.Bodies.{written_len, unsayable, late, long, short}
use Rattle.pg_message_writer.proofs.size.told_len.Goals as goal

pub returns-in_default-clause-exact : goal.returns-in_default-clause-exact
returns-in_default-clause-exact c = sym (ap length_of (unsayable (packet_told c.args.stamp c.args.told.now) c.in_default.ensures.none))

pub returns-then-stamp-gt-MAX_STAMP-clause-exact : goal.returns-then-stamp-gt-MAX_STAMP-clause-exact
returns-then-stamp-gt-MAX_STAMP-clause-exact c = sym (ap length_of (late (packet_told c.args.stamp c.args.told.now) c.in-Some.ensures.some c.if-stamp-gt-MAX_STAMP.true))

pub returns-then-len-gt-MAX_LEN-clause-exact : goal.returns-then-len-gt-MAX_LEN-clause-exact
returns-then-len-gt-MAX_LEN-clause-exact c =
    let p = packet_told c.args.stamp c.args.told.now in
    let more : 16777216 < length (written (term_of_packet p)) = omega (arith, written_len p, c.in-Some.ensures.len, c.if-len-gt-MAX_LEN.true) in
    sym (ap length_of (long p c.in-Some.ensures.some c.if-stamp-gt-MAX_STAMP.false more))

pub returns-clause-exact : goal.returns-clause-exact
returns-clause-exact c =
    let p = packet_told c.args.stamp c.args.told.now in
    let fits : length (written (term_of_packet p)) ≤ 16777216 = omega (arith, written_len p, c.in-Some.ensures.len, c.if-len-gt-MAX_LEN.false) in
    let same : c.saturating_add-len.result ≡ length (written (term_of_packet p)) = omega (arith, written_len p, c.in-Some.ensures.len, c.if-len-gt-MAX_LEN.false) in
    ap Ok same ∙ sym (ap length_of (short p c.in-Some.ensures.some c.if-stamp-gt-MAX_STAMP.false fits))
