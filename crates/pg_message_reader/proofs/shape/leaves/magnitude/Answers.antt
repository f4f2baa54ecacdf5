use Rattle.std.proofs.Common.{◌≡◌, ◌-◌, arith, drop, ap, ◌∙◌}
use Rattle.pg_term_io.specs.Numbers.{little_endian}
use Rattle.pg_term_io.proofs.Digits.{no_digits, next_digit, little_endian_le}
use Rattle.pg_message_reader.proofs.shape.leaves.magnitude.Goals as goal

pub loop-place-init : goal.loop-place-init
loop-place-init c = (no_digits c.args.digits.now, omega arith)

pub returns-in_err-above : goal.returns-in_err-above
returns-in_err-above c =
    let step = next_digit c.args.digits.now c.loop-place.place c.loop-place.number (omega arith) (omega arith) c.loop-place.invariant.0 in
    rw c.from_residual.ensures (λ h. c.in_err-above.ensures (omega (arith, step, little_endian_le c.args.digits.now (c.loop-place.place - 1))))

pub loop-place-preserved : goal.loop-place-preserved
loop-place-preserved c =
    let step = next_digit c.args.digits.now c.loop-place.place c.loop-place.number (omega arith) (omega arith) c.loop-place.invariant.0 in
    (omega (arith, step, c.in_ok-number.ensures, c.in_ok-above.ensures), omega (arith, c.in_ok-number.ensures))

pub returns : goal.returns
returns c =
    let none : c.loop-place.place ≡ 0 = omega arith in
    let whole : c.loop-place.number ≡ little_endian c.args.digits.now = c.loop-place.invariant.0 ∙ ap (λ n. little_endian (drop n c.args.digits.now)) none in
    (omega (arith, whole, c.loop-place.invariant.1), whole)
