use Rattle.std.proofs.Common.{sym, ap, ◌∙◌, refl}
use Rattle.std.specs.Str.{chars}
use Rattle.pg_text.specs.Ends.{past}
use Rattle.pg_text.specs.Reading.{reference_at}
use Rattle.pg_text.proofs.Passing.{some_same, leaf_reference, leaf_angled, leaf_number, leaf_atom}
use Rattle.pg_text.proofs.reading.ends.leaf_end.Goals as goal

pub returns-in-Some-clause-some : goal.returns-in-Some-clause-some
returns-in-Some-clause-some c =
    some_same c.reference_end.result _ _ (leaf_reference (chars c.args.text.now) c.in-Some.ensures.some.0 ∙ ap (λ t. past (reference_at t)) (sym c.in-Some.ensures.some.1)) c.reference_end.ensures.some

pub returns-in-Some-clause-none : goal.returns-in-Some-clause-none
returns-in-Some-clause-none c = λ none.
    leaf_reference (chars c.args.text.now) c.in-Some.ensures.some.0 ∙ ap (λ t. past (reference_at t)) (sym c.in-Some.ensures.some.1) ∙ c.reference_end.ensures.none none

pub returns-in-Some-after-clause-some : goal.returns-in-Some-after-clause-some
returns-in-Some-after-clause-some c =
    some_same c.angled_end.result _ _ (leaf_angled (chars c.args.text.now) (c.in_default.ensures.none refl) c.in-Some-after.ensures.some.0) c.angled_end.ensures.some

pub returns-in-Some-after-clause-none : goal.returns-in-Some-after-clause-none
returns-in-Some-after-clause-none c = λ none. leaf_angled (chars c.args.text.now) (c.in_default.ensures.none refl) c.in-Some-after.ensures.some.0 ∙ c.angled_end.ensures.none none

pub returns-in-Ok-clause-some : goal.returns-in-Ok-clause-some
returns-in-Ok-clause-some c =
    leaf_number (chars c.args.text.now) (c.in_default.ensures.none refl) (c.in_default-after.ensures.none refl) (sym c.begins_number.ensures ∙ c.if-begins_number.true) ∙ ap past c.in-Ok.ensures.ok

pub returns-in-Err-clause-none : goal.returns-in-Err-clause-none
returns-in-Err-clause-none c = λ none.
    leaf_number (chars c.args.text.now) (c.in_default.ensures.none refl) (c.in_default-after.ensures.none refl) (sym c.begins_number.ensures ∙ c.if-begins_number.true) ∙ ap past c.in-Err.ensures.err.1

pub returns-clause-some : goal.returns-clause-some
returns-clause-some c = some_same c.atom_end.result _ _
    (leaf_atom (chars c.args.text.now) (c.in_default.ensures.none refl) (c.in_default-after.ensures.none refl) (sym c.begins_number.ensures ∙ c.if-begins_number.false)) c.atom_end.ensures.some

pub returns-clause-none : goal.returns-clause-none
returns-clause-none c = λ none.
    leaf_atom (chars c.args.text.now) (c.in_default.ensures.none refl) (c.in_default-after.ensures.none refl) (sym c.begins_number.ensures ∙ c.if-begins_number.false) ∙ c.atom_end.ensures.none none
