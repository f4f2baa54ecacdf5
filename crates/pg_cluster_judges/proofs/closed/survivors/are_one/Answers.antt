use Rattle.std.proofs.Common.{refl, sym, subst, ◌∙◌, arith}
use Rattle.pg_cluster_judges.specs.Survivors.{is_compared}
use Rattle.pg_cluster_judges.specs.Survivors.{survivors}
use Rattle.pg_cluster_judges.proofs.Surviving.{IsAgreed, all_survivors}
use Rattle.pg_cluster_judges.proofs.Surviving.{more_lost, more_nodes}
use Rattle.pg_cluster_judges.proofs.Surviving.{one_so, so_one, survivors_all}
use Rattle.pg_cluster_judges.proofs.closed.survivors.are_one.Goals as goal
use Rattle.pg_cluster_judges.proofs.closed.survivors.are_one.Goals.{else-not-was_lost-via-then-not-was_lost+in_ok-agrees_if_formed+else-not-branch}
use Rattle.pg_cluster_judges.proofs.closed.survivors.are_one.Goals.{else-not-was_lost-via-else-not-was_lost}

pub returns-then-not-branch : goal.returns-then-not-branch
returns-then-not-branch c =
    let lost = c.args.lost.now in
    let left = survivors lost c.args.nodes.now in
    let compared = is_compared left lost c.args.logs.now in
    let P = IsAgreed compared left in (
      λ e. absurd cc,
      λ one. sym c.if-not-branch.true ∙ c.in_ok-agrees_if_formed.ensures.1
          (subst P (sym c.index-nodes-place.is) (all_survivors P lost c.args.nodes.now (so_one compared left one) c.loop-place.place c.index-nodes-place.result c.loop-place-test.true (sym c.was_lost.ensures ∙ c.if-not-was_lost.true))),
    )

pub loop-place-preserved : goal.loop-place-preserved
loop-place-preserved c =
    let lost = c.args.lost.now in
    let left = survivors lost c.args.nodes.now in
    let P = IsAgreed (is_compared left lost c.args.logs.now) left in
    elim c.else-not-was_lost.branch [
      | else-not-was_lost-via-then-not-was_lost+in_ok-agrees_if_formed+else-not-branch w ↦
          more_nodes P lost c.args.nodes.now c.loop-place.place w.index-nodes-place.result c.loop-place.invariant c.loop-place-test.true
          (subst P w.index-nodes-place.is (w.in_ok-agrees_if_formed.ensures.0 w.if-not-branch.false))
      | else-not-was_lost-via-else-not-was_lost w ↦
          more_lost P lost c.args.nodes.now c.loop-place.place c.loop-place.invariant (sym c.was_lost.ensures ∙ w.if-not-was_lost.false)
    ]

pub returns : goal.returns
returns c =
    let lost = c.args.lost.now in
    let left = survivors lost c.args.nodes.now in
    let compared = is_compared left lost c.args.logs.now in
    let past = c.loop-place-test.false in
    (λ so. one_so compared left (survivors_all (IsAgreed compared left) lost c.args.nodes.now (λ k d low kept. c.loop-place.invariant k d (omega (arith, low, past)) kept)), λ one. refl)
