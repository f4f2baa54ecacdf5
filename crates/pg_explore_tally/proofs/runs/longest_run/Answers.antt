use Rattle.std.proofs.Common.{List, ap, sym, subst, ◌∙◌}
use Rattle.pg_explore_tally.specs.declared.streaks.Streak.{Streak}
use Rattle.pg_explore_tally.specs.Runs.{AreSettled, AreStreaks, IsGreatest, IsRunTo, len_at}
use Rattle.pg_explore_tally.proofs.Passing.{last_marked, longest_found}
use Rattle.pg_explore_tally.proofs.runs.longest_run.Goals as goal

pub returns : goal.returns
returns c =
    let worlds = c.args.worlds.now in
    let marks = c.args.marks.now in
    let streaks = c.in_ok-streaks.streaks.items in
    let last = c.greatest-last.result in
    let h = c.in_ok-streaks.ensures.streaks in
    let settled = c.in_ok-streaks.ensures.settled in
    let greatest : IsGreatest streaks last = subst (λ (xs : List Streak). IsGreatest xs last) c.as_slice.ensures.value c.greatest-last.ensures in
    longest_found worlds marks streaks last c.in_ok-chain.field-0 h settled greatest
    (subst (λ (xs : List Streak). IsRunTo worlds marks c.in_ok-chain.field-0.first c.in_ok-chain.field-0.hops.items (len_at xs last)) c.as_slice-3.ensures.value
    (c.in_ok-chain.ensures worlds marks (subst (λ (xs : List Streak). AreStreaks worlds marks xs) (sym c.as_slice-3.ensures.value) h)
    (subst (λ (xs : List Streak). AreSettled worlds xs) (sym c.as_slice-3.ensures.value) settled)
    (last_marked worlds marks streaks last h
    (λ e. c.if-streak_at-eq0.false (ap (λ (s : Streak). s.len) c.streak_at.ensures ∙ ap (λ (xs : List Streak). len_at xs last) c.as_slice-2.ensures.value ∙ e)))))
