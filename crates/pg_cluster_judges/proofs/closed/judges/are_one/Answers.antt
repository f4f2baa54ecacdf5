use Rattle.std.proofs.Common.{refl, sym, subst, ◌∙◌}
use Rattle.std.specs.List.{All}
use Rattle.std.proofs.lemmas.List.{take_all}
use Rattle.std.proofs.lemmas.List.Elements.{All-more, All-get_or}
use Rattle.pg_cluster_judges.proofs.Agreeing.{IsAgreed, one_so, so_one}
use Rattle.pg_cluster_judges.proofs.closed.judges.are_one.Goals as goal

pub returns-then-not-branch : goal.returns-then-not-branch
returns-then-not-branch c =
    let P = IsAgreed c.args.nodes.now in (
      λ e. absurd cc,
      λ one. sym c.if-not-branch.true ∙ c.in_ok-agrees_if_formed.ensures.1
          (subst P (sym c.node-item.is) (All-get_or P c.args.nodes.now c.loop-node.node-index c.node-item.result c.loop-node-test.true (so_one c.args.nodes.now one))),
    )

pub loop-node-preserved : goal.loop-node-preserved
loop-node-preserved c =
    let P = IsAgreed c.args.nodes.now in
    All-more P c.args.nodes.now c.loop-node.node-index c.node-item.result c.loop-node-test.true c.loop-node.invariant
    (subst P c.node-item.is (c.in_ok-agrees_if_formed.ensures.0 c.if-not-branch.false))

pub returns : goal.returns
returns c =
    let P = IsAgreed c.args.nodes.now in (
      λ yes. one_so c.args.nodes.now (subst (All P) (take_all c.loop-node.node-index c.args.nodes.now c.loop-node-test.false) c.loop-node.invariant),
      λ one. refl,
    )
