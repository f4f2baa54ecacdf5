use Rattle.std.proofs.Common.{◌≡◌, true, refl, subst}
use Rattle.std.specs.List.{All}
use Rattle.std.proofs.lemmas.List.{take_all}
use Rattle.std.proofs.lemmas.List.Elements.{All-more}
use Rattle.pg_term.specs.declared.term.Term.{Term}
use Rattle.pg_cluster_judges.specs.Judges.{HasAs, is_seen_free}
use Rattle.pg_cluster_judges.proofs.closed.judges.agrees_on.Goals as goal

pub loop-name-preserved : goal.loop-name-preserved
loop-name-preserved c =
    let P = λ (name : Term). is_seen_free c.args.nodes.now name ≡ true → All (HasAs c.args.node.now name) c.args.nodes.now in
    All-more P c.args.names.now c.loop-name.name-index c.name-item.result c.loop-name-test.true c.loop-name.invariant
    (subst P c.name-item.is (c.in_ok-agrees_if_free.ensures.0 c.if-not-branch.false))

pub returns : goal.returns
returns c =
    let P = λ (name : Term). is_seen_free c.args.nodes.now name ≡ true → All (HasAs c.args.node.now name) c.args.nodes.now in
    (λ yes. subst (All P) (take_all c.loop-name.name-index c.args.names.now c.loop-name-test.false) c.loop-name.invariant, λ all. refl)
