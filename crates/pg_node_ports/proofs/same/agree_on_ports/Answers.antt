use Rattle.std.proofs.Common.{◌∙◌, sym, refl}
use Rattle.pg_node_opens.proofs.Named.{clash}
use Rattle.pg_node_ports.proofs.SamePorts.{none_below, more_below, one_same, all_below}
use Rattle.pg_node_ports.proofs.same.agree_on_ports.Goals as goal

pub loop-place-init : goal.loop-place-init
loop-place-init c = none_below c.args.ports.now c.args.others.now

pub loop-place-preserved : goal.loop-place-preserved
loop-place-preserved c =
    more_below c.args.ports.now c.args.others.now c.loop-place.place c.index-ports-place.result c.index-others-place.result c.requires c.loop-place-test.true c.index-ports-place.is c.index-others-place.is
    (c.same_port.ensures.0 c.if-not-same_port.false) c.loop-place.invariant

pub returns-then-not-same_port : goal.returns-then-not-same_port
returns-then-not-same_port c = (
  λ e. absurd (clash (sym e)),
  λ h. sym c.if-not-same_port.true ∙ c.same_port.ensures.1
      (one_same c.args.ports.now c.args.others.now c.loop-place.place c.index-ports-place.result c.index-others-place.result c.requires c.loop-place-test.true c.index-ports-place.is c.index-others-place.is h),
)

pub returns : goal.returns
returns c = (λ e. all_below c.args.ports.now c.args.others.now c.loop-place.place c.requires c.loop-place-test.false c.loop-place.invariant, λ h. refl)
