use Rattle.std.proofs.Common.{rules, sym, ap, subst, refl, arith}
use Rattle.std.specs.Str.{chars}
use Rattle.pg_text.specs.Ends.{past}
use Rattle.pg_text.specs.Reading.{numeral_at}
use Rattle.pg_text.proofs.Passing.{Passed, passed_begin, passed_on}
use Rattle.pg_text.proofs.reading.ends.byte_list_end.Goals as goal

pub loop-follows-init : goal.loop-follows-init
loop-follows-init c = (c.utf8.text, passed_begin (numeral_at 255) 62 (chars c.args.text.now) (c.in_default.ensures.none refl), omega arith)

pub loop-follows-preserved : goal.loop-follows-preserved
loop-follows-preserved c = (
  search rules,
  subst (Passed (numeral_at 255) 62 (chars c.args.text.now)) (sym c.in-Some-after.ensures.some.1)
      (passed_on (numeral_at 255) 62 (chars c.args.text.now) (chars c.loop-follows.rest.now) (chars c.in-Ok.follows.now) (ap past c.in-Ok.ensures.ok) c.in-Ok.ensures.shorter
      c.in-Some-after.ensures.some.0 c.loop-follows.invariant.1),
  omega (arith, c.in-Some-after.ensures.shorter, c.in-Ok.ensures.shorter, c.loop-follows.invariant.2),
)
