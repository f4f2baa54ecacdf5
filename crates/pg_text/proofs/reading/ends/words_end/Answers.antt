use Rattle.std.proofs.Common.{rules, ◌≡◌, ◌-◌, ◌+◌, ◌≤◌, suc, sym, ap, ◌∙◌, subst, arith, refl, length}
use Rattle.std.specs.Str.{chars}
use Rattle.pg_text.specs.Reading.{number_at, begins}
use Rattle.pg_text.proofs.Passing.{WordsPast, words_begun, words_past_on, words_past_stay, words_past_bad, words_past_end, after_some, after_none}
use Rattle.pg_text.proofs.reading.ends.words_end.Goals as goal
use Rattle.pg_text.proofs.reading.ends.words_end.Goals.{in-Some+in-Ok, in_default}

pub returns-in_default-number_at-clause-none : goal.returns-in_default-number_at-clause-none
returns-in_default-number_at-clause-none c = λ none.
    let n : 3 - c.loop.counter ≡ suc (3 - (c.loop.counter + 1)) = omega (arith, c.loop-test.true) in
    words_begun (chars c.args.text.now) c.in_ok-_first.ensures.some.0
    ∙ words_past_bad (3 - c.loop.counter) (3 - (c.loop.counter + 1)) (chars c.args.text.now) (chars c.loop.rest.now) n c.in-Some.ensures.some.0
    (ap number_at (sym c.in-Some.ensures.some.1) ∙ c.in_default-number_at.ensures.err.1) c.loop.invariant.1

pub loop-preserved : goal.loop-preserved
loop-preserved c =
    let n : 3 - c.loop.counter ≡ suc (3 - (c.loop.counter + 1)) = omega (arith, c.loop-test.true) in
    let few : c.loop.counter + 1 ≤ 3 = omega (arith, c.loop-test.true) in
    elim c.match-after.branch [
      | in-Some+in-Ok w ↦ (
        search rules,
        subst (WordsPast (3 - (c.loop.counter + 1)) (chars c.args.text.now)) (ap (λ x. chars x.now) (sym w.rest-is))
            (words_past_on (3 - c.loop.counter) (3 - (c.loop.counter + 1)) (chars c.args.text.now) (chars c.loop.rest.now) (chars w.in-Ok.follows.now) w.in-Ok.field-0-0 n w.in-Some.ensures.some.0
            (ap number_at (sym w.in-Some.ensures.some.1) ∙ w.in-Ok.ensures.ok) c.loop.invariant.1),
        few,
        omega (arith, ap (λ x. length (chars x.now)) w.rest-is, w.in-Ok.ensures.shorter, w.in-Some.ensures.shorter, c.loop.invariant.3),
      )
      | in_default w ↦ (
        search rules,
        subst (WordsPast (3 - (c.loop.counter + 1)) (chars c.args.text.now)) (ap (λ x. chars x.now) (sym w.rest-is))
            (words_past_stay (3 - c.loop.counter) (3 - (c.loop.counter + 1)) (chars c.args.text.now) (chars c.loop.rest.now) (w.in_default.ensures.none refl) c.loop.invariant.1),
        few,
        omega (arith, ap (λ x. length (chars x.now)) w.rest-is, c.loop.invariant.3),
      )
    ]

pub returns-clause-some : goal.returns-clause-some
returns-clause-some c =
    let n : 3 - c.loop.counter ≡ 0 = omega (arith, c.loop-test.false) in
    after_some c.after-2.result 62 (chars c.loop.rest.now) _ (words_begun (chars c.args.text.now) c.in_ok-_first.ensures.some.0
    ∙ words_past_end (chars c.args.text.now) (chars c.loop.rest.now) (begins 62 (chars c.loop.rest.now)) refl (subst (λ k. WordsPast k (chars c.args.text.now) (chars c.loop.rest.now)) n c.loop.invariant.1))
    c.after-2.ensures.some

pub returns-clause-none : goal.returns-clause-none
returns-clause-none c =
    let n : 3 - c.loop.counter ≡ 0 = omega (arith, c.loop-test.false) in
    after_none c.after-2.result 62 (chars c.loop.rest.now) _ (words_begun (chars c.args.text.now) c.in_ok-_first.ensures.some.0
    ∙ words_past_end (chars c.args.text.now) (chars c.loop.rest.now) (begins 62 (chars c.loop.rest.now)) refl (subst (λ k. WordsPast k (chars c.args.text.now) (chars c.loop.rest.now)) n c.loop.invariant.1))
    c.after-2.ensures.none
