use Rattle.std.proofs.Common.{◌∙◌, suc, ap, sym, arith}
use Rattle.pg_term_io.specs.Reading.{item_at}
use Rattle.pg_term_io.specs.Kinds.{count_in, tuple_in}
use Rattle.pg_term_io.proofs.Placed.{no_item, no_tuple, tuple_elements, tuple_uncounted}
use Rattle.pg_term_io.proofs.Placed.{tuple_here, no_tuple_here, no_byte}
use Rattle.pg_term_io.proofs.reading.outline.tuple_at.Goals as goal

pub returns-in-Ok-clause-some : goal.returns-in-Ok-clause-some
returns-in-Ok-clause-some c room =
    ap (item_at (suc room)) c.in-Some.ensures.cases.0
    ∙ tuple_elements room c.in-Some.tag.now c.in-Ok.found.0 c.in-Some-of_tuple.size c.in-Some.behind.now c.in-Ok.found.1.now (sym c.of_tuple.ensures ∙ c.in-Some-of_tuple.is) c.in-Ok.ensures.told

pub returns-in-Err-clause-none : goal.returns-in-Err-clause-none
returns-in-Err-clause-none c room t rest e =
    absurd (tuple_uncounted room c.in-Some.tag.now c.in-Some-of_tuple.size c.in-Err.field-0 c.in-Some.behind.now t rest (sym c.of_tuple.ensures ∙ c.in-Some-of_tuple.is) c.in-Err.ensures.told (ap (item_at room) (sym c.in-Some.ensures.cases.0) ∙ e))

pub returns-in_default-of_tuple-clause-none : goal.returns-in_default-of_tuple-clause-none
returns-in_default-of_tuple-clause-none c room t rest e =
    no_tuple room c.in-Some.tag.now c.in-Some.behind.now t rest (sym c.of_tuple.ensures ∙ c.in_default-of_tuple.is) (ap (item_at room) (sym c.in-Some.ensures.cases.0) ∙ e)

pub returns-in_default-clause-none : goal.returns-in_default-clause-none
returns-in_default-clause-none c room t rest e = absurd (omega (arith, no_item room c.args.bytes.now t rest e, c.in_default.ensures))

pub returns-in-Ok-clause-exact : goal.returns-in-Ok-clause-exact
returns-in-Ok-clause-exact c =
    sym (ap tuple_in c.in-Some.ensures.cases.0 ∙ tuple_here c.in-Some.tag.now c.in-Some-of_tuple.size c.in-Some.behind.now (sym c.of_tuple.ensures ∙ c.in-Some-of_tuple.is) ∙ ap count_in c.in-Ok.ensures.told)

pub returns-in-Err-clause-exact : goal.returns-in-Err-clause-exact
returns-in-Err-clause-exact c =
    sym (ap tuple_in c.in-Some.ensures.cases.0 ∙ tuple_here c.in-Some.tag.now c.in-Some-of_tuple.size c.in-Some.behind.now (sym c.of_tuple.ensures ∙ c.in-Some-of_tuple.is) ∙ ap count_in c.in-Err.ensures.told)

pub returns-in_default-of_tuple-clause-exact : goal.returns-in_default-of_tuple-clause-exact
returns-in_default-of_tuple-clause-exact c =
    sym (ap tuple_in c.in-Some.ensures.cases.0 ∙ no_tuple_here c.in-Some.tag.now c.in-Some.behind.now (sym c.of_tuple.ensures ∙ c.in_default-of_tuple.is))

pub returns-in_default-clause-exact : goal.returns-in_default-clause-exact
returns-in_default-clause-exact c = sym (no_byte c.args.bytes.now (omega (arith, c.in_default.ensures)))
