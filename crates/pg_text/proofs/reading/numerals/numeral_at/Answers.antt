use Rattle.std.proofs.Common.{rules, sym, ap, ◌∙◌, arith, length, ◌+◌, ◌*◌}
use Rattle.std.specs.Char.{digit_value}
use Rattle.std.specs.Str.{chars}
use Rattle.pg_text.specs.Reading.{numeral_at}
use Rattle.pg_text.proofs.Numerals.{digit_turn, value_over, numeral_turn, value_at}
use Rattle.pg_text.proofs.reading.numerals.numeral_at.Goals as goal

pub returns-in_err-value-clause-err : goal.returns-in_err-value-clause-err
returns-in_err-value-clause-err c =
    let begins = c.in-Some.ensures.some in
    let none = ap (numeral_at c.args.most) begins.0 ∙ numeral_turn c.args.most c.in-Some.first (chars c.in-Some.follows.now) begins.1 (sym c.zero_leads.ensures ∙ c.if-zero_leads.false)
    ∙ value_over c.args.most (0 * 10 + digit_value c.in-Some.first) (chars c.in-Some.follows.now) c.in_err-value.ensures.err.1 in
    search rules

pub loop-digit-init : goal.loop-digit-init
loop-digit-init c =
    let begins = c.in-Some.ensures.some in (
      search rules,
      ap (numeral_at c.args.most) begins.0 ∙ numeral_turn c.args.most c.in-Some.first (chars c.in-Some.follows.now) begins.1 (sym c.zero_leads.ensures ∙ c.if-zero_leads.false)
          ∙ ap (λ n. value_at c.args.most n (chars c.in-Some.follows.now)) (sym c.in_ok-value.ensures.value),
      c.in_ok-value.ensures.few,
      omega (arith, ap length begins.0),
    )

pub returns-in_err-value-2-clause-err : goal.returns-in_err-value-2-clause-err
returns-in_err-value-2-clause-err c =
    let begins = c.in-Some-digit_of.ensures.some in
    let none = c.loop-digit.invariant.1 ∙ ap (value_at c.args.most c.loop-digit.value) begins.0
    ∙ digit_turn c.args.most c.loop-digit.value c.in-Some-digit_of.digit (chars c.in-Some-digit_of.more.now) begins.1
    ∙ value_over c.args.most (c.loop-digit.value * 10 + digit_value c.in-Some-digit_of.digit) (chars c.in-Some-digit_of.more.now) c.in_err-value-2.ensures.err.1 in
    search rules

pub loop-digit-preserved : goal.loop-digit-preserved
loop-digit-preserved c =
    let begins = c.in-Some-digit_of.ensures.some in (
      search rules,
      c.loop-digit.invariant.1 ∙ ap (value_at c.args.most c.loop-digit.value) begins.0
          ∙ digit_turn c.args.most c.loop-digit.value c.in-Some-digit_of.digit (chars c.in-Some-digit_of.more.now) begins.1
          ∙ ap (λ n. value_at c.args.most n (chars c.in-Some-digit_of.more.now)) (sym c.in_ok-value-2.ensures.value),
      c.in_ok-value-2.ensures.few,
      omega (arith, ap length begins.0, c.loop-digit.invariant.3),
    )
