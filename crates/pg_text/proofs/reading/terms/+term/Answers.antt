use Rattle.std.proofs.Common.{rules, ◌≡◌, sym, subst, refl, arith, Some, None}
use Rattle.std.specs.Prelude.{IfOk, IfErr}
use Rattle.std.specs.Str.{chars}
use Rattle.pg_text.specs.Reading.{term_at}
use Rattle.pg_text.specs.declared.fault.TextFault.TheVariants.{BadText}
use Rattle.pg_text.proofs.Fronts.{goes_on, goes_same, term_leaf}
use Rattle.pg_text.proofs.reading.terms.+term.Goals as goal

pub elements_at-loop-elements-preserved : goal.elements_at-loop-elements-preserved
elements_at-loop-elements-preserved t c = (
  search rules,
  goes_same (term_at c.args.room) c.args.last (chars c.args.text.now) _ _ _ _ (sym c.in_ok-push.ensures.items) (sym c.in-Some-after.ensures.some.1)
      (goes_on (term_at c.args.room) c.args.last (chars c.args.text.now) c.loop-elements.elements.items (chars c.loop-elements.rest.now) (chars c.in_ok-element.follows.now) c.in_ok-element.element
      c.in_ok-element.ensures.ok c.in_ok-element.ensures.shorter c.in-Some-after.ensures.some.0 c.loop-elements.invariant.1),
  omega (arith, c.in-Some-after.ensures.shorter, c.in_ok-element.ensures.shorter, c.loop-elements.invariant.2),
)

pub term_at-returns-clause-ok : goal.term_at-returns-clause-ok
term_at-returns-clause-ok t c = subst (λ r. IfOk c.leaf_at.result (λ read. r ≡ Some (read.0, chars read.1.now)))
    (term_leaf c.args.room (chars c.args.text.now) c.if-room-eq0.false (c.in_default.ensures.none refl) (c.in_default-after.ensures.none refl)) c.leaf_at.ensures.ok

pub term_at-returns-clause-err : goal.term_at-returns-clause-err
term_at-returns-clause-err t c = subst (λ r. IfErr c.leaf_at.result (λ fault. fault ≡ BadText → r ≡ None))
    (term_leaf c.args.room (chars c.args.text.now) c.if-room-eq0.false (c.in_default.ensures.none refl) (c.in_default-after.ensures.none refl)) c.leaf_at.ensures.err
