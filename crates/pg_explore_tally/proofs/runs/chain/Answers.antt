use Rattle.std.proofs.Common.{◌≡◌, List, length, reverse, ap, sym, subst, ◌∙◌}
use Rattle.pg_explore_tally.specs.declared.streaks.Hop.{Hop}
use Rattle.pg_explore_tally.specs.declared.streaks.Streak.{Streak}
use Rattle.pg_explore_tally.specs.Runs.{IsRunTo, len_at}
use Rattle.pg_explore_tally.proofs.Passing.{IsBack, back_all, back_more}
use Rattle.pg_explore_tally.proofs.Walking.{slice_left}
use Rattle.pg_explore_tally.proofs.runs.chain.Goals as goal

pub returns-in-None : goal.returns-in-None
returns-in-None c = λ worlds marks h settled m.
    let streaks = c.args.streaks.now in
    let old = c.loop.hops in
    let new = c.reverse.new.self in
    let is : new ≡ reverse old.items = c.reverse.ensures.after ∙ ap (λ (xs : List Hop). reverse xs) c.as_mut_slice.ensures.value in
    let all = slice_left old.len new old.items old.ok.0 (c.reverse.ensures.len ∙ ap length c.as_mut_slice.ensures.value) ∙ is in
    subst (λ (xs : List Hop). IsRunTo worlds marks c.loop.reached xs (len_at streaks c.args.last)) (sym all)
    (back_all worlds marks streaks c.args.last c.loop.reached old.items h (ap (λ (s : Streak). s.before) (sym c.streak_at.ensures) ∙ c.in-None.is) (c.loop.invariant worlds marks h settled m))

pub loop-preserved : goal.loop-preserved
loop-preserved c = λ worlds marks h settled m.
    let streaks = c.args.streaks.now in
    subst (λ (xs : List Hop). IsBack worlds marks streaks c.args.last c.in-Some.hop.place xs) (sym c.in_ok-push-in-Some.ensures.items)
    (back_more worlds marks streaks c.args.last c.loop.reached c.loop.hops.items c.in-Some.hop h settled (ap (λ (s : Streak). s.before) (sym c.streak_at.ensures) ∙ c.in-Some.is) (c.loop.invariant worlds marks h settled m))
