use Rattle.std.proofs.Common.{rules, sym, arith}
use Rattle.std.specs.Str.{chars}
use Rattle.pg_text.specs.Reading.{numeral_at}
use Rattle.pg_text.proofs.Fronts.{goes_on, goes_same}
use Rattle.pg_text.proofs.reading.parts.byte_list_at.Goals as goal

pub loop-bytes-preserved : goal.loop-bytes-preserved
loop-bytes-preserved c = (
  search rules,
  goes_same (numeral_at 255) 62 (chars c.args.text.now) _ _ _ _ (sym c.in_ok-push.ensures.items) (sym c.in-Some-after.ensures.some.1)
      (goes_on (numeral_at 255) 62 (chars c.args.text.now) c.loop-bytes.bytes.items (chars c.loop-bytes.rest.now) (chars c.in_ok-byte.follows.now) c.in_ok-byte.byte
      c.in_ok-byte.ensures.ok c.in_ok-byte.ensures.shorter c.in-Some-after.ensures.some.0 c.loop-bytes.invariant.1),
  omega (arith, c.in-Some-after.ensures.shorter, c.in_ok-byte.ensures.shorter, c.loop-bytes.invariant.2),
)
