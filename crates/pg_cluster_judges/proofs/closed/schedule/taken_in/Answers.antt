use Rattle.std.proofs.Common.{◌∙◌, ◌+◌, map, cond, sym, ap}
use Rattle.pg_cluster_judges.specs.Merge.{log_at}
use Rattle.pg_cluster_judges.proofs.Counted.{counts_on}
use Rattle.pg_cluster_judges.proofs.closed.schedule.taken_in.Goals.{then-takes_at, else-takes_at}
use Rattle.pg_cluster_judges.proofs.closed.schedule.taken_in.Goals as goal

pub loop-place-preserved : goal.loop-place-preserved
loop-place-preserved c =
    let logs = log_at (map (λ v. v.items) c.args.logs.now) in
    counts_on logs c.args.peer c.args.node c.args.later.now c.loop-place.place c.loop-place.count c.if-takes_at.count c.takes_at.result c.loop-place-test.true c.loop-place.invariant c.takes_at.ensures
    (elim c.if-takes_at.branch [
      | then-takes_at w ↦ w.count-is ∙ sym (ap (λ b. cond b (c.loop-place.count + 1) c.loop-place.count) w.if-takes_at.true)
      | else-takes_at w ↦ w.count-is ∙ sym (ap (λ b. cond b (c.loop-place.count + 1) c.loop-place.count) w.if-takes_at.false)
    ])
