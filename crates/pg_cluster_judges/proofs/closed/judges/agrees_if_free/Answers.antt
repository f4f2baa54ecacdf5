use Rattle.std.proofs.Common.{refl, subst}
use Rattle.std.specs.List.{All}
use Rattle.std.proofs.lemmas.List.{take_all}
use Rattle.std.proofs.lemmas.List.Elements.{All-more}
use Rattle.pg_cluster_judges.specs.Judges.{HasAs}
use Rattle.pg_cluster_judges.proofs.closed.judges.agrees_if_free.Goals as goal

pub loop-other-preserved : goal.loop-other-preserved
loop-other-preserved c =
    let P = HasAs c.args.node.now c.args.name.now in
    All-more P c.args.nodes.now c.loop-other.other-index c.other-item.result c.loop-other-test.true c.loop-other.invariant
    (subst P c.other-item.is (c.in_ok-has_as.ensures.0 c.if-not-branch.false))

pub returns : goal.returns
returns c = (
  λ yes free. subst (All (HasAs c.args.node.now c.args.name.now)) (take_all c.loop-other.other-index c.args.nodes.now c.loop-other-test.false) c.loop-other.invariant,
  λ all. refl,
)
