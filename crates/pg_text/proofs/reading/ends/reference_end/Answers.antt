use Rattle.std.proofs.Common.{ap, ◌∙◌, refl}
use Rattle.std.specs.Str.{chars}
use Rattle.pg_text.specs.Ends.{past, words_past}
use Rattle.pg_text.proofs.Passing.{then_past, some_same, no_reference, reference_created, reference_nowhere}
use Rattle.pg_text.proofs.reading.ends.reference_end.Goals as goal

pub returns-in_err-after-clause-none : goal.returns-in_err-after-clause-none
returns-in_err-after-clause-none c = λ none. no_reference (chars c.args.text.now) (c.in_err-after.ensures.none refl)

pub returns-in_err-creation-clause-none : goal.returns-in_err-creation-clause-none
returns-in_err-creation-clause-none c = λ none.
    reference_nowhere (chars c.args.text.now) (chars c.in_ok-after.field-0.now) c.in_ok-after.ensures.some.0 c.in_ok-after.ensures.some.1 (c.in_err-creation.ensures.none refl)

pub returns-clause-some : goal.returns-clause-some
returns-clause-some c = some_same c.words_end.result _ _ (reference_created (chars c.args.text.now) (chars c.in_ok-after.field-0.now) (chars c.in_ok-creation.creation.now) c.in_ok-after.ensures.some.0
    c.in_ok-after.ensures.some.1 c.in_ok-creation.ensures.some ∙ ap (λ r. then_past (past r) words_past) c.in-Ok.ensures.ok) c.words_end.ensures.some

pub returns-clause-none : goal.returns-clause-none
returns-clause-none c = λ none. reference_created (chars c.args.text.now) (chars c.in_ok-after.field-0.now) (chars c.in_ok-creation.creation.now) c.in_ok-after.ensures.some.0
    c.in_ok-after.ensures.some.1 c.in_ok-creation.ensures.some ∙ ap (λ r. then_past (past r) words_past) c.in-Ok.ensures.ok ∙ c.words_end.ensures.none none

pub returns-in_default-clause-none : goal.returns-in_default-clause-none
returns-in_default-clause-none c = λ none. reference_created (chars c.args.text.now) (chars c.in_ok-after.field-0.now) (chars c.in_ok-creation.creation.now) c.in_ok-after.ensures.some.0
    c.in_ok-after.ensures.some.1 c.in_ok-creation.ensures.some ∙ ap (λ r. then_past (past r) words_past) c.in_default.ensures.err.1
