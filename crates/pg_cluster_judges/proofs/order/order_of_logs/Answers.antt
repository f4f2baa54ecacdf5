-- The loop puts the entry that comes first, and goes on in its log.
use Rattle.std.proofs.Common.{sym, subst, map, length, set}
use Rattle.pg_cluster_judges.specs.Merge.{clocks_in}
use Rattle.pg_cluster_judges.proofs.Reading.{SoFar, turn_ends, turn_keeps, turns_done}
use Rattle.pg_cluster_judges.proofs.order.order_of_logs.Goals as goal

pub loop-i-smaller : goal.loop-i-smaller
loop-i-smaller g c =
    turn_ends (λ v. v.items) c.args.logs.now c.deref.result.now c.loop-i.read.items c.in-Some.i c.index-place.result.now c.place_after.result
    c.in-Some.ensures c.deref.ensures.value c.index-place.ensures c.place_after.ensures c.loop-i.order.items c.loop-i.invariant

pub loop-i-preserved : goal.loop-i-preserved
loop-i-preserved g c =
    subst (SoFar (length c.args.logs.now) (clocks_in (map (λ v. v.items) c.args.logs.now)) (set c.loop-i.read.items c.in-Some.i c.place_after.result)) (sym c.in_ok-push.ensures.items)
    (turn_keeps (λ v. v.items) c.args.logs.now c.deref.result.now c.loop-i.read.items c.in-Some.i c.index-place.result.now c.place_after.result
    c.in-Some.ensures c.deref.ensures.value c.index-place.ensures c.place_after.ensures c.loop-i.order.items c.loop-i.invariant)

pub returns : goal.returns
returns g c = record {
  ok = turns_done (λ v. v.items) c.args.logs.now c.deref.result.now c.loop-i.read.items c.loop-i.order.items c.deref.ensures.value c.loop-i.invariant c.in_default.ensures;
}
