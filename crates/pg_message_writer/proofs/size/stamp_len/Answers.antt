use Rattle.std.proofs.Common.{ℤ, arith, ap, sym, length, ◌∙◌}
use Rattle.std.specs.Prelude.{pos}
use Rattle.pg_message_types.specs.PgTermIo.Writing.{int_bytes}
use Rattle.pg_message_writer.proofs.Stamps.{stamp_is, stamp_few}
use Rattle.pg_message_writer.proofs.Words.{int_is}
use Rattle.pg_message_writer.proofs.size.stamp_len.Goals as goal

pub returns-clause-value : goal.returns-clause-value
returns-clause-value c =
    c.int_len.ensures.value ∙ ap (λ (y : ℤ). length (int_bytes y)) (stamp_is c.args.stamp c.from.result c.ranges.stamp.fits c.from.ensures) ∙ sym (ap length (int_is (pos c.args.stamp)))

pub returns-clause-few : goal.returns-clause-few
returns-clause-few c h =
    let e = ap (λ (y : ℤ). length (int_bytes y)) (stamp_is c.args.stamp c.from.result c.ranges.stamp.fits c.from.ensures) in
    omega (arith, c.int_len.ensures.value, e, stamp_few c.args.stamp h)
