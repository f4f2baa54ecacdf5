use Rattle.std.proofs.Common.{rules, sym, ap, ◌∙◌, arith, length}
use Rattle.std.specs.Str.{chars}
use Rattle.pg_text.proofs.Passing.{counts_one}
use Rattle.pg_text.proofs.reading.ends.quoted_end.Goals as goal

pub loop-character-preserved-in-Character : goal.loop-character-preserved-in-Character
loop-character-preserved-in-Character c = (
  search rules,
  counts_one (chars c.args.text.now) (chars c.loop-character.rest.now) (chars c.in-Some.follows.now) c.in-Some.character c.loop-character.place c.in-Character.read
      c.loop-character.seen c.in_ok-seen-in-Character.seen c.in-Some.ensures.some (sym c.read_quoted.ensures ∙ c.in-Character.is) c.in_ok-seen-in-Character.ensures.some c.loop-character.invariant.1,
  omega (arith, ap length c.in-Some.ensures.some, c.loop-character.invariant.2),
)
