use Rattle.std.proofs.Common.{◌≡◌, true, false}
use Rattle.std.proofs.Common.{refl, sym, subst, ◌∙◌, take_all}
use Rattle.std.specs.List.{All}
use Rattle.std.proofs.lemmas.List.Elements.{All-more}
use Rattle.pg_cluster_judges.specs.Survivors.{is_compared}
use Rattle.pg_cluster_judges.specs.Survivors.{survivors}
use Rattle.pg_cluster_judges.proofs.Surviving.{IsAgreedOn}
use Rattle.pg_cluster_judges.proofs.closed.survivors.agrees_on.Goals as goal
use Rattle.pg_cluster_judges.proofs.closed.survivors.agrees_on.Goals.{else-is_compared-via-then-is_compared+in_ok-have_as+else-not-branch}
use Rattle.pg_cluster_judges.proofs.closed.survivors.agrees_on.Goals.{else-is_compared-via-else-is_compared}

pub loop-name-preserved : goal.loop-name-preserved
loop-name-preserved c =
    let left = survivors c.args.lost.now c.args.nodes.now in
    let compared = is_compared left c.args.lost.now c.args.logs.now in
    let P = IsAgreedOn compared left c.args.node.now in
    All-more P c.args.names.now c.loop-name.name-index c.name-item.result c.loop-name-test.true c.loop-name.invariant
    (subst P c.name-item.is (elim c.else-is_compared.branch [
      | else-is_compared-via-then-is_compared+in_ok-have_as+else-not-branch w ↦ λ is. w.in_ok-have_as.ensures.0 w.if-not-branch.false
      | else-is_compared-via-else-is_compared w ↦ λ is. absurd (let clash : true ≡ false = sym is ∙ (sym c.is_compared.ensures ∙ w.if-is_compared.false) in cc)
    ]))

pub returns : goal.returns
returns c =
    let left = survivors c.args.lost.now c.args.nodes.now in
    let P = IsAgreedOn (is_compared left c.args.lost.now c.args.logs.now) left c.args.node.now in
    (λ so. subst (All P) (take_all c.loop-name.name-index c.args.names.now c.loop-name-test.false) c.loop-name.invariant, λ all. refl)
