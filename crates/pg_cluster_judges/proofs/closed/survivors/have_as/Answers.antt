use Rattle.std.proofs.Common.{refl, sym, subst, ◌∙◌, arith}
use Rattle.pg_cluster_judges.specs.Judges.{HasAs}
use Rattle.pg_cluster_judges.proofs.Surviving.{all_survivors}
use Rattle.pg_cluster_judges.proofs.Surviving.{more_lost, more_nodes}
use Rattle.pg_cluster_judges.proofs.Surviving.{survivors_all}
use Rattle.pg_cluster_judges.proofs.closed.survivors.have_as.Goals as goal
use Rattle.pg_cluster_judges.proofs.closed.survivors.have_as.Goals.{else-not-was_lost-via-then-not-was_lost+in_ok-has_as+else-not-branch}
use Rattle.pg_cluster_judges.proofs.closed.survivors.have_as.Goals.{else-not-was_lost-via-else-not-was_lost}

pub returns-then-not-branch : goal.returns-then-not-branch
returns-then-not-branch c =
    let P = HasAs c.args.node.now c.args.name.now in (
      λ e. absurd cc,
      λ all. sym c.if-not-branch.true ∙ c.in_ok-has_as.ensures.1
          (subst P (sym c.index-nodes-place.is) (all_survivors P c.args.lost.now c.args.nodes.now all c.loop-place.place c.index-nodes-place.result c.loop-place-test.true (sym c.was_lost.ensures ∙ c.if-not-was_lost.true))),
    )

pub loop-place-preserved : goal.loop-place-preserved
loop-place-preserved c =
    let P = HasAs c.args.node.now c.args.name.now in
    elim c.else-not-was_lost.branch [
      | else-not-was_lost-via-then-not-was_lost+in_ok-has_as+else-not-branch w ↦
          more_nodes P c.args.lost.now c.args.nodes.now c.loop-place.place w.index-nodes-place.result c.loop-place.invariant c.loop-place-test.true
          (subst P w.index-nodes-place.is (w.in_ok-has_as.ensures.0 w.if-not-branch.false))
      | else-not-was_lost-via-else-not-was_lost w ↦
          more_lost P c.args.lost.now c.args.nodes.now c.loop-place.place c.loop-place.invariant (sym c.was_lost.ensures ∙ w.if-not-was_lost.false)
    ]

pub returns : goal.returns
returns c =
    let P = HasAs c.args.node.now c.args.name.now in
    let past = c.loop-place-test.false in
    (λ so. survivors_all P c.args.lost.now c.args.nodes.now (λ k d low kept. c.loop-place.invariant k d (omega (arith, low, past)) kept), λ all. refl)
