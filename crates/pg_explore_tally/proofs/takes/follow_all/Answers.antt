use Rattle.std.proofs.Common.{false, Ok, get_or, take, sym, ap, subst, List, [], ◌∷◌, ◌++◌, ◌∙◌, Bool}
use Rattle.std.proofs.lemmas.List.{take_all, take_more}
use Rattle.std.proofs.lemmas.List.Elements.{Contains-get_or}
use Rattle.std.specs.List.{Contains}
use Rattle.pg_explore_tally.specs.declared.ways.Way.{Way}
use Rattle.pg_explore_tally.specs.Walks.{ways_at}
use Rattle.pg_explore_tally.proofs.Walking.{IsFollowing, followed_changed, followed_same}
use Rattle.pg_explore_tally.proofs.Walking.{none_followed, ok_same, closed_at, ways_are}
use Rattle.pg_explore_tally.proofs.takes.follow_all.Goals as goal
use Rattle.pg_explore_tally.proofs.takes.follow_all.Goals.{then-branch, else-branch}

pub loop-way-init : goal.loop-way-init
loop-way-init c = none_followed c.args.worlds.now c.args.place c.args.takes.now false c.requires

pub loop-way-preserved : goal.loop-way-preserved
loop-way-preserved c =
    let worlds = c.args.worlds.now in
    let place = c.args.place in
    let old = c.args.takes.now in
    let ways = c.as_slice-way-items.result.now in
    let i = c.loop-way.way-index in
    let d : Way = record { place = 0; is_take = false } in
    let way = get_or ways i d in
    let here : Contains (ways_at worlds place) way =
    subst (λ (xs : List Way). Contains xs way) (c.as_slice-way-items.ensures.value ∙ sym (ways_are worlds place c.in-Some.ways.now c.in-Some.ensures.lookup.0 c.in-Some.ensures.lookup.1))
    (Contains-get_or ways i d c.loop-way-test.true) in
    subst (λ (seen : List Way). IsFollowing worlds place seen old c.follow.new.takes c.if-branch.changed) (sym (take_more ways i d c.loop-way-test.true))
    (elim c.if-branch.branch as (λ _. IsFollowing worlds place (take i ways ++ way ∷ []) old c.follow.new.takes c.if-branch.changed) [
      | then-branch w ↦ subst (λ (b : Bool). IsFollowing worlds place (take i ways ++ way ∷ []) old c.follow.new.takes b) (sym w.changed-is)
          (followed_changed worlds place (take i ways) (take i ways ++ way ∷ []) old c.loop-way.takes c.follow.new.takes c.loop-way.changed way c.loop-way.invariant here c.in_ok-follow.ensures.followed)
      | else-branch w ↦ subst (λ (b : Bool). IsFollowing worlds place (take i ways ++ way ∷ []) old c.follow.new.takes b) (sym w.changed-is)
          (followed_same worlds place (take i ways) old c.loop-way.takes c.follow.new.takes c.loop-way.changed way c.loop-way.invariant here c.in_ok-follow.ensures.followed
          (c.in_ok-follow.ensures.same (ap Ok w.if-branch.false)))
    ])

pub returns-after-loop-way-clause-kept : goal.returns-after-loop-way-clause-kept
returns-after-loop-way-clause-kept c = c.loop-way.invariant.kept

pub returns-after-loop-way-clause-same : goal.returns-after-loop-way-clause-same
returns-after-loop-way-clause-same c = λ e. c.loop-way.invariant.same (ok_same c.loop-way.changed false e)

pub returns-after-loop-way-clause-closed : goal.returns-after-loop-way-clause-closed
returns-after-loop-way-clause-closed c = λ e.
    let ways = c.as_slice-way-items.result.now in
    closed_at c.args.worlds.now c.args.place (take c.loop-way.way-index ways) c.args.takes.now c.loop-way.takes c.loop-way.changed c.loop-way.invariant
    (ways_are c.args.worlds.now c.args.place c.in-Some.ways.now c.in-Some.ensures.lookup.0 c.in-Some.ensures.lookup.1 ∙ sym c.as_slice-way-items.ensures.value ∙ sym (take_all c.loop-way.way-index ways c.loop-way-test.false))
    (ok_same c.loop-way.changed false e)
