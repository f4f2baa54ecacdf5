use Rattle.std.proofs.Common.{◌+◌, ◌∙◌, List, length, sym, ap, arith, subst}
use Rattle.pg_node.specs.declared.node.wire.Wire.{Wire}
use Rattle.pg_node.specs.Begun.{IsOpened}
use Rattle.pg_node.specs.Links.{links_in}
use Rattle.pg_node.proofs.Begun.{opened_more, one_longer}
use Rattle.pg_node.proofs.node.begun.wires_with.Goals as goal

pub loop-place-preserved : goal.loop-place-preserved
loop-place-preserved c =
    let wires = c.loop-place.wires.items in
    let wire = c.in_ok-wire.wire in
    record {
      count = ap (λ (ws : List Wire). length ws) c.in-Ok-push.ensures.items ∙ (one_longer wires wire ∙ ap (λ n. n + 1) c.loop-place.invariant.count);
      each = λ k l. subst (λ (ws : List Wire). IsOpened c.args.packet.now (links_in ws k)) (sym c.in-Ok-push.ensures.items)
          (opened_more c.args.packet.now wires wire c.in_ok-wire.ensures (λ j lj. c.loop-place.invariant.each j (omega (arith, lj, c.loop-place.invariant.count))) k (omega (arith, l, c.loop-place.invariant.count)));
    }
