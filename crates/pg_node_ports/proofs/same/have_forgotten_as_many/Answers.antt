use Rattle.std.proofs.Common.{◌∙◌, sym, ap, refl, arith}
use Rattle.pg_node_opens.proofs.Named.{clash}
use Rattle.pg_node_ports.specs.declared.port.Port.{Port}
use Rattle.pg_node_ports.proofs.SamePorts.{forgotten_below, one_forgotten, all_forgotten}
use Rattle.pg_node_ports.proofs.same.have_forgotten_as_many.Goals as goal

pub loop-place-init : goal.loop-place-init
loop-place-init c = λ k l. absurd (omega (arith, l))

pub loop-place-preserved : goal.loop-place-preserved
loop-place-preserved c =
    let mine = ap (λ (p : Port). p.forgotten) c.index-ports-place.is in
    let theirs = ap (λ (p : Port). p.forgotten) c.index-others-place.is in
    forgotten_below c.args.ports.now c.args.others.now c.loop-place.place c.index-ports-place.result c.index-others-place.result c.requires c.loop-place-test.true c.index-ports-place.is c.index-others-place.is
    (mine ∙ (c.if-ports-place.false ∙ sym theirs)) c.loop-place.invariant

pub returns-then-ports-place : goal.returns-then-ports-place
returns-then-ports-place c =
    let mine = ap (λ (p : Port). p.forgotten) c.index-ports-place.is in
    let theirs = ap (λ (p : Port). p.forgotten) c.index-others-place.is in (
      λ e. absurd (clash (sym e)),
      λ h. absurd (c.if-ports-place.true (sym mine ∙ (one_forgotten c.args.ports.now c.args.others.now c.loop-place.place c.index-ports-place.result c.index-others-place.result c.requires c.loop-place-test.true c.index-ports-place.is c.index-others-place.is h ∙ theirs))),
    )

pub returns : goal.returns
returns c = (λ e. all_forgotten c.args.ports.now c.args.others.now c.loop-place.place c.requires c.loop-place-test.false c.loop-place.invariant, λ h. refl)
