use Rattle.std.proofs.Common.{rules, ◌≡◌, ◌-◌, ◌+◌, ◌≤◌, suc, sym, ap, ◌∙◌, subst, arith, None, Some, refl, length, vec_len}
use Rattle.std.specs.Str.{chars}
use Rattle.pg_text.specs.Reading.{words_at, number_at}
use Rattle.pg_text.proofs.Fronts.{WordsGo, words_go_on, words_stay, words_go_bad}
use Rattle.pg_text.proofs.Fronts.{words_whole, words_none, words_same, not_read}
use Rattle.pg_text.proofs.reading.parts.words_at.Goals as goal
use Rattle.pg_text.proofs.reading.parts.words_at.Goals.{in-Some+in_ok-word+in_ok-push, in_default}

pub returns-in_err-word-clause-err : goal.returns-in_err-word-clause-err
returns-in_err-word-clause-err c =
    let n : 3 - c.loop.counter ≡ suc (3 - (c.loop.counter + 1)) = omega (arith, c.loop-test.true) in
    not_read (words_at 3 (chars c.args.text.now) ≡ None) c.from_residual.result
    (words_go_bad (3 - c.loop.counter) (3 - (c.loop.counter + 1)) (chars c.args.text.now) c.loop.words.items (chars c.loop.rest.now) n c.in-Some.ensures.some.0
    (ap number_at (sym c.in-Some.ensures.some.1) ∙ c.in_err-word.ensures.err.1) c.loop.invariant.1)

pub loop-preserved : goal.loop-preserved
loop-preserved c =
    let n : 3 - c.loop.counter ≡ suc (3 - (c.loop.counter + 1)) = omega (arith, c.loop-test.true) in
    let few : c.loop.counter + 1 ≤ 3 = omega (arith, c.loop-test.true) in
    elim c.match-after.branch [
      | in-Some+in_ok-word+in_ok-push w ↦ (
        search rules,
        words_same (3 - (c.loop.counter + 1)) (chars c.args.text.now) _ _ _ _ (sym w.in_ok-push.ensures.items ∙ ap (λ x. x.items) (sym w.words-is)) (ap (λ x. chars x.now) (sym w.rest-is))
            (words_go_on (3 - c.loop.counter) (3 - (c.loop.counter + 1)) (chars c.args.text.now) c.loop.words.items (chars c.loop.rest.now) (chars w.in_ok-word.follows.now) w.in_ok-word.word n w.in-Some.ensures.some.0
            (ap number_at (sym w.in-Some.ensures.some.1) ∙ w.in_ok-word.ensures.ok) c.loop.invariant.1),
        omega (arith, ap vec_len w.words-is, w.in_ok-push.ensures.len, c.loop.invariant.2),
        few,
        omega (arith, ap (λ x. length (chars x.now)) w.rest-is, w.in_ok-word.ensures.shorter, w.in-Some.ensures.shorter, c.loop.invariant.4),
      )
      | in_default w ↦ (
        search rules,
        words_same (3 - (c.loop.counter + 1)) (chars c.args.text.now) _ _ _ _ (ap (λ x. x.items) (sym w.words-is)) (ap (λ x. chars x.now) (sym w.rest-is))
            (words_stay (3 - c.loop.counter) (3 - (c.loop.counter + 1)) (chars c.args.text.now) c.loop.words.items (chars c.loop.rest.now) (w.in_default.ensures.none refl) c.loop.invariant.1),
        omega (arith, ap vec_len w.words-is, c.loop.invariant.2),
        few,
        omega (arith, ap (λ x. length (chars x.now)) w.rest-is, c.loop.invariant.4),
      )
    ]

pub returns-in_err-behind-clause-err : goal.returns-in_err-behind-clause-err
returns-in_err-behind-clause-err c =
    let n : 3 - c.loop.counter ≡ 0 = omega (arith, c.loop-test.false) in
    not_read (words_at 3 (chars c.args.text.now) ≡ None) c.from_residual-in_err-behind.result
    (words_none (chars c.args.text.now) c.loop.words.items (chars c.loop.rest.now) c.in_err-behind.ensures.err.1 (subst (λ k. WordsGo k (chars c.args.text.now) c.loop.words.items (chars c.loop.rest.now)) n c.loop.invariant.1))

pub returns-clause-ok : goal.returns-clause-ok
returns-clause-ok c =
    let n : 3 - c.loop.counter ≡ 0 = omega (arith, c.loop-test.false) in
    words_whole (chars c.args.text.now) c.loop.words.items (chars c.loop.rest.now) c.in_ok-behind.ensures.ok.0 (subst (λ k. WordsGo k (chars c.args.text.now) c.loop.words.items (chars c.loop.rest.now)) n c.loop.invariant.1)
    ∙ ap (λ r. Some (c.loop.words.items, r)) (sym c.in_ok-behind.ensures.ok.1)
