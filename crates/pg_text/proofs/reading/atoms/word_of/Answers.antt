use Rattle.std.proofs.Common.{rules, ap, ◌∙◌, refl}
use Rattle.std.specs.Str.{chars}
use Rattle.pg_text.proofs.Words.{passes_none, passes_on, passed_cut, passed_word, passed_rest}
use Rattle.pg_text.proofs.reading.atoms.word_of.Goals as goal

pub loop-follows-init : goal.loop-follows-init
loop-follows-init c = (c.utf8.text, passes_none c.args.text.now)

pub loop-follows-preserved : goal.loop-follows-preserved
loop-follows-preserved c =
    (search rules, passes_on c.args.text.now c.loop-follows.rest.now c.in-Some.follows.now c.in-Some.field-0-0 c.in-Some.ensures.bytes c.in-Some.ensures.some.1 c.loop-follows.invariant.1)

pub split_at-requires : goal.split_at-requires
split_at-requires c = passed_cut c.args.text.now c.loop-follows.rest.now c.loop-follows.invariant.0 c.loop-follows.invariant.1

pub returns-clause-word : goal.returns-clause-word
returns-clause-word c = ap chars c.split_at.ensures.front ∙ passed_word c.args.text.now c.loop-follows.rest.now (c.in_default.ensures.none refl) c.loop-follows.invariant.1

pub returns-clause-rest : goal.returns-clause-rest
returns-clause-rest c = passed_rest c.args.text.now c.loop-follows.rest.now (c.in_default.ensures.none refl) c.loop-follows.invariant.1
