use Rattle.std.proofs.Common.{◌≡◌, ◌+◌, subst, sym, ap, arith}
use Rattle.pg_explore.proofs.Lengthening.{AddsBelow, adds_all, adds_next}
use Rattle.pg_explore.proofs.losses.add_longer.Goals as goal

pub loop-count-preserved : goal.loop-count-preserved
loop-count-preserved c = adds_next c.loop-count.count c.args.keep.now _ _ _ c.loop-count.invariant c.in_ok-add_with.ensures

pub returns : goal.returns
returns c =
    let last : c.loop-count.count ≡ c.args.most = omega (arith, c.loop-count-test.false, c.loop-count.auto.count-end) in
    adds_all c.args.most c.args.keep.now _ _ (adds_next c.args.most c.args.keep.now _ _ _ (subst (λ n. AddsBelow n c.args.keep.now c.args.all.now.items c.loop-count.all.items) last c.loop-count.invariant) c.in_ok-add_with-2.ensures)
