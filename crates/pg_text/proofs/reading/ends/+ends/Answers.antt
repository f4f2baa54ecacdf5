use Rattle.std.proofs.Common.{rules, ◌-◌, sym, ap, ◌∙◌, subst, refl, arith}
use Rattle.std.specs.Str.{chars}
use Rattle.pg_text.specs.Ends.{past}
use Rattle.pg_text.specs.Reading.{term_at, elements_at}
use Rattle.pg_text.proofs.Passing.{Passed, passed_begin, passed_on, some_same, no_term, term_tuple, term_list, term_other}
use Rattle.pg_text.proofs.reading.ends.+ends.Goals as goal

pub elements_end-loop-follows-init : goal.elements_end-loop-follows-init
elements_end-loop-follows-init t c = (search rules, passed_begin (term_at c.args.room) c.args.last (chars c.args.text.now) (c.in_default.ensures.none refl), omega arith)

pub elements_end-loop-follows-preserved : goal.elements_end-loop-follows-preserved
elements_end-loop-follows-preserved t c = (
  search rules,
  subst (Passed (term_at c.args.room) c.args.last (chars c.args.text.now)) (sym c.in-Some-after.ensures.some.1)
      (passed_on (term_at c.args.room) c.args.last (chars c.args.text.now) (chars c.loop-follows.rest.now) (chars c.in_ok-follows.follows.now) c.in_ok-follows.ensures.some c.in_ok-follows.ensures.shorter
      c.in-Some-after.ensures.some.0 c.loop-follows.invariant.1),
  omega (arith, c.in-Some-after.ensures.shorter, c.in_ok-follows.ensures.shorter, c.loop-follows.invariant.2),
)

pub term_end-returns-then-room-eq0-clause-none : goal.term_end-returns-then-room-eq0-clause-none
term_end-returns-then-room-eq0-clause-none t c = λ none. ap (λ room. past (term_at room (chars c.args.text.now))) c.if-room-eq0.true ∙ no_term (chars c.args.text.now)

pub term_end-returns-in-Some-clause-some : goal.term_end-returns-in-Some-clause-some
term_end-returns-in-Some-clause-some t c = some_same c.elements_end.result _ _ (term_tuple c.args.room (chars c.args.text.now) c.if-room-eq0.false c.in-Some.ensures.some.0
    ∙ ap (λ x. past (elements_at (term_at (c.args.room - 1)) 125 x)) (sym c.in-Some.ensures.some.1)) c.elements_end.ensures.some

pub term_end-returns-in-Some-clause-none : goal.term_end-returns-in-Some-clause-none
term_end-returns-in-Some-clause-none t c = λ none. term_tuple c.args.room (chars c.args.text.now) c.if-room-eq0.false c.in-Some.ensures.some.0
    ∙ ap (λ x. past (elements_at (term_at (c.args.room - 1)) 125 x)) (sym c.in-Some.ensures.some.1) ∙ c.elements_end.ensures.none none

pub term_end-returns-in-Some-after-clause-some : goal.term_end-returns-in-Some-after-clause-some
term_end-returns-in-Some-after-clause-some t c = some_same c.elements_end-in-Some-after.result _ _
    (term_list c.args.room (chars c.args.text.now) c.if-room-eq0.false (c.in_default.ensures.none refl) c.in-Some-after.ensures.some.0
    ∙ ap (λ x. past (elements_at (term_at (c.args.room - 1)) 93 x)) (sym c.in-Some-after.ensures.some.1)) c.elements_end-in-Some-after.ensures.some

pub term_end-returns-in-Some-after-clause-none : goal.term_end-returns-in-Some-after-clause-none
term_end-returns-in-Some-after-clause-none t c = λ none. term_list c.args.room (chars c.args.text.now) c.if-room-eq0.false (c.in_default.ensures.none refl) c.in-Some-after.ensures.some.0
    ∙ ap (λ x. past (elements_at (term_at (c.args.room - 1)) 93 x)) (sym c.in-Some-after.ensures.some.1) ∙ c.elements_end-in-Some-after.ensures.none none

pub term_end-returns-clause-some : goal.term_end-returns-clause-some
term_end-returns-clause-some t c = some_same c.leaf_end.result _ _
    (term_other c.args.room (chars c.args.text.now) c.if-room-eq0.false (c.in_default.ensures.none refl) (c.in_default-after.ensures.none refl)) c.leaf_end.ensures.some

pub term_end-returns-clause-none : goal.term_end-returns-clause-none
term_end-returns-clause-none t c = λ none.
    term_other c.args.room (chars c.args.text.now) c.if-room-eq0.false (c.in_default.ensures.none refl) (c.in_default-after.ensures.none refl) ∙ c.leaf_end.ensures.none none
