use Rattle.std.proofs.Common.{rules, sym, ap, ◌∙◌, string_bytes, arith, length}
use Rattle.std.specs.Str.{chars}
use Rattle.pg_text.specs.Reading.{with_front, quoted_at}
use Rattle.pg_text.specs.declared.reading.quoted.Place.TheVariants.{Plain}
use Rattle.pg_text.proofs.Fronts.{no_front}
use Rattle.pg_text.proofs.Quoting.{chars_push, chars_none, quoted_grows}
use Rattle.pg_text.proofs.reading.atoms.quoted_at.Goals as goal

pub loop-character-init : goal.loop-character-init
loop-character-init c =
    (c.utf8.text, no_front (quoted_at (chars c.args.text.now) Plain) ∙ ap (λ x. with_front x (quoted_at (chars c.args.text.now) Plain)) (sym (chars_none _ c.new-name.ensures.bytes)), omega arith)

pub loop-character-preserved-in-Character : goal.loop-character-preserved-in-Character
loop-character-preserved-in-Character c = (
  search rules,
  quoted_grows (chars c.args.text.now) (chars (string_bytes c.loop-character.name)) (chars (string_bytes c.push.new.self)) (chars c.loop-character.rest.now) (chars c.in-Some.follows.now)
      c.in-Some.character c.loop-character.place c.in-Character.read c.in-Some.ensures.some (sym c.read_quoted.ensures ∙ c.in-Character.is)
      (chars_push c.loop-character.name c.push.new.self c.in-Character.read c.in_ok-push-in-Character.ensures.bytes) c.loop-character.invariant.1,
  omega (arith, ap length c.in-Some.ensures.some, c.loop-character.invariant.2),
)
