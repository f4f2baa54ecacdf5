use Rattle.std.proofs.Common.{◌≡◌, ℕ, suc, ◌-◌, ◌∷◌, Some, None, Ok, length, refl, sym, ap, subst, ◌∙◌, arith}
use Rattle.pg_term_io.specs.Reading.{tail_at}
use Rattle.pg_term_io.specs.Lists.{list_from}
use Rattle.pg_term_io.proofs.Lists.{goes_on, tail_after, no_tail, no_deeper_tail}
use Rattle.pg_term_io.proofs.Lists.{tail_empty, tail_listed, tail_uncounted, no_list}
use Rattle.pg_term_io.specs.declared.tag.ListTag.TheVariants.{Nil, String, List as Cons}
use Rattle.pg_term_io.proofs.Nexts.{next_more, next_nothing, next_tail, next_too_deep, next_inside, next_uncounted}
use Rattle.pg_term_io.proofs.Tags.{list_named}
use Rattle.pg_term_io.proofs.reading.lists.+next_element.Goals as goal

pub returns-then-count-gt0-clause-next : goal.returns-then-count-gt0-clause-next
returns-then-count-gt0-clause-next t c ts rest e =
    let n : c.args.count ≡ suc (c.args.count - 1) = omega arith in
    goes_on c.args.levels (c.args.count - 1) c.args.bytes.now ts rest (subst (λ (n : ℕ). list_from c.args.levels n c.args.bytes.now ≡ Ok (ts, rest)) n e)

pub returns-in_default-clause-next : goal.returns-in_default-clause-next
returns-in_default-clause-next t c ts rest e = absurd (no_tail c.args.levels c.args.count c.args.bytes.now ts rest (omega arith) c.in_default.ensures.cases e)

pub returns-in-Some-Nil-clause-next : goal.returns-in-Some-Nil-clause-next
returns-in-Some-Nil-clause-next t c ts rest e =
    tail_empty c.args.levels c.in-Some.behind.now ts rest (tail_after c.args.levels c.args.count c.args.bytes.now c.in-Some.tag.now 106 c.in-Some.behind.now ts rest (omega arith) c.in-Some.ensures.cases.0 (list_named c.in-Some.tag.now Nil (sym c.of_list.ensures ∙ c.in-Some-Nil.is ∙ ap Some c.in-Some-Nil.field-0-is)) e)

pub returns-in-Some-String-clause-next : goal.returns-in-Some-String-clause-next
returns-in-Some-String-clause-next t c ts rest e =
    c.text_end.ensures.next c.args.levels ts rest (tail_after c.args.levels c.args.count c.args.bytes.now c.in-Some.tag.now 107 c.in-Some.behind.now ts rest (omega arith) c.in-Some.ensures.cases.0 (list_named c.in-Some.tag.now String (sym c.of_list.ensures ∙ c.in-Some-String.is ∙ ap Some c.in-Some-String.field-0-is)) e)

pub returns-in-Some-String-clause-within : goal.returns-in-Some-String-clause-within
returns-in-Some-String-clause-within t c = c.text_end.ensures.within c.args.levels c.args.bytes.now (omega (arith, ap length c.in-Some.ensures.cases.0))

pub returns-then-levels-eq0-clause-next : goal.returns-then-levels-eq0-clause-next
returns-then-levels-eq0-clause-next t c ts rest e =
    absurd (no_deeper_tail 108 c.in-Some.behind.now ts rest (subst (λ (room : ℕ). tail_at room (108 ∷ c.in-Some.behind.now) ≡ Ok (ts, rest)) c.if-levels-eq0.true (tail_after c.args.levels c.args.count c.args.bytes.now c.in-Some.tag.now 108 c.in-Some.behind.now ts rest (omega arith) c.in-Some.ensures.cases.0 (list_named c.in-Some.tag.now Cons (sym c.of_list.ensures ∙ c.in-Some-List.is ∙ ap Some c.in-Some-List.field-0-is)) e)))

pub returns-in-Ok-clause-next : goal.returns-in-Ok-clause-next
returns-in-Ok-clause-next t c ts rest e =
    let n : c.args.levels ≡ suc (c.args.levels - 1) = omega (arith, c.if-levels-eq0.false) in
    c.next_element.ensures.next ts rest (tail_listed (c.args.levels - 1) c.in-Ok.count c.in-Some.behind.now c.in-Ok.rest.now ts rest c.in-Ok.ensures.told
    (subst (λ (room : ℕ). tail_at room (108 ∷ c.in-Some.behind.now) ≡ Ok (ts, rest)) n (tail_after c.args.levels c.args.count c.args.bytes.now c.in-Some.tag.now 108 c.in-Some.behind.now ts rest (omega arith) c.in-Some.ensures.cases.0 (list_named c.in-Some.tag.now Cons (sym c.of_list.ensures ∙ c.in-Some-List.is ∙ ap Some c.in-Some-List.field-0-is)) e)))

pub returns-in-Err-clause-next : goal.returns-in-Err-clause-next
returns-in-Err-clause-next t c ts rest e =
    absurd (tail_uncounted c.args.levels c.in-Err.field-0 c.in-Some.behind.now ts rest c.in-Err.ensures.told (tail_after c.args.levels c.args.count c.args.bytes.now c.in-Some.tag.now 108 c.in-Some.behind.now ts rest (omega arith) c.in-Some.ensures.cases.0 (list_named c.in-Some.tag.now Cons (sym c.of_list.ensures ∙ c.in-Some-List.is ∙ ap Some c.in-Some-List.field-0-is)) e))

pub returns-in-None-clause-next : goal.returns-in-None-clause-next
returns-in-None-clause-next t c ts rest e =
    absurd (no_list c.args.levels c.in-Some.tag.now c.in-Some.behind.now ts rest (sym c.of_list.ensures ∙ c.in-None.is)
    (tail_after c.args.levels c.args.count c.args.bytes.now c.in-Some.tag.now c.in-Some.tag.now c.in-Some.behind.now ts rest (omega arith) c.in-Some.ensures.cases.0 refl e))

-- ---- what comes next, by a function that computes

pub returns-then-count-gt0-clause-shown : goal.returns-then-count-gt0-clause-shown
returns-then-count-gt0-clause-shown t c = next_more c.args.levels c.args.count c.args.bytes.now c.if-count-gt0.true

pub returns-in_default-clause-shown : goal.returns-in_default-clause-shown
returns-in_default-clause-shown t c = next_nothing c.args.levels c.args.count c.args.bytes.now (omega arith) c.in_default.ensures.cases

pub returns-in-Some-Nil-clause-shown : goal.returns-in-Some-Nil-clause-shown
returns-in-Some-Nil-clause-shown t c =
    next_tail c.args.levels c.args.count c.args.bytes.now c.in-Some.tag.now c.in-Some.behind.now (omega arith) c.in-Some.ensures.cases.0 (Some Nil) (sym c.of_list.ensures ∙ c.in-Some-Nil.is ∙ ap Some c.in-Some-Nil.field-0-is)

pub returns-in-Some-String-clause-shown : goal.returns-in-Some-String-clause-shown
returns-in-Some-String-clause-shown t c =
    rw (next_tail c.args.levels c.args.count c.args.bytes.now c.in-Some.tag.now c.in-Some.behind.now (omega arith) c.in-Some.ensures.cases.0 (Some String) (sym c.of_list.ensures ∙ c.in-Some-String.is ∙ ap Some c.in-Some-String.field-0-is)) c.text_end.ensures.shown

pub returns-in-None-clause-shown : goal.returns-in-None-clause-shown
returns-in-None-clause-shown t c =
    next_tail c.args.levels c.args.count c.args.bytes.now c.in-Some.tag.now c.in-Some.behind.now (omega arith) c.in-Some.ensures.cases.0 None (sym c.of_list.ensures ∙ c.in-None.is)

pub returns-then-levels-eq0-clause-shown : goal.returns-then-levels-eq0-clause-shown
returns-then-levels-eq0-clause-shown t c =
    next_too_deep c.args.levels c.args.count c.args.bytes.now c.in-Some.tag.now c.in-Some.behind.now (omega arith) c.in-Some.ensures.cases.0 (sym c.of_list.ensures ∙ c.in-Some-List.is ∙ ap Some c.in-Some-List.field-0-is) c.if-levels-eq0.true

pub returns-in-Ok-clause-shown : goal.returns-in-Ok-clause-shown
returns-in-Ok-clause-shown t c =
    rw (next_inside c.args.levels c.args.count c.args.bytes.now c.in-Some.tag.now c.in-Some.behind.now (omega arith) c.in-Some.ensures.cases.0 c.in-Ok.count c.in-Ok.rest.now (sym c.of_list.ensures ∙ c.in-Some-List.is ∙ ap Some c.in-Some-List.field-0-is) c.if-levels-eq0.false c.in-Ok.ensures.told) c.next_element.ensures.shown

pub returns-in-Err-clause-shown : goal.returns-in-Err-clause-shown
returns-in-Err-clause-shown t c =
    next_uncounted c.args.levels c.args.count c.args.bytes.now c.in-Some.tag.now c.in-Some.behind.now (omega arith) c.in-Some.ensures.cases.0 c.in-Err.field-0 (sym c.of_list.ensures ∙ c.in-Some-List.is ∙ ap Some c.in-Some-List.field-0-is) c.in-Err.ensures.told
