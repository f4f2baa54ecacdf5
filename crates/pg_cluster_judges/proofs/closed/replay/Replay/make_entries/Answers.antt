use Rattle.std.proofs.Common.{◌≡◌, ◌<◌, ◌+◌, arith, drop, length, map}
use Rattle.std.proofs.lemmas.List.{length-drop}
use Rattle.pg_cluster_judges.specs.Schedule.{steps_behind}
use Rattle.pg_cluster_judges.proofs.GoingOn.{all_more, none_more, one_entry_more, take_whole}
use Rattle.pg_cluster_judges.proofs.closed.replay.Replay.make_entries.Goals as goal

pub loop-place-preserved : goal.loop-place-preserved
loop-place-preserved c = λ given made has.
    let logs = map (λ v. v.items) c.args.logs.now in
    let lost = c.args.lost.now in
    let order = c.args.order.now in
    let low : c.loop-place.place < length order = omega (arith, c.loop-place-test.true, c.loop-place.auto.place-end) in
    let left = length-drop (c.loop-place.place + 1) order in
    one_entry_more logs lost (steps_behind logs lost order) order _ c.loop-place.place c.loop-place.self c.make_entry.new.self low c.in_ok-make_entry.ensures
    (take_whole _ (drop (c.loop-place.place + 1) order) (omega (arith, left))) given made (c.loop-place.invariant given made has)

pub loop-place-init : goal.loop-place-init
loop-place-init c = λ given made has. none_more (map (λ v. v.items) c.args.logs.now) c.args.lost.now c.args.order.now given made c.args.self.now has

pub returns : goal.returns
returns c = λ given made has.
    let logs = map (λ v. v.items) c.args.logs.now in
    let lost = c.args.lost.now in
    let order = c.args.order.now in
    let last : c.loop-place.place ≡ length order = omega (arith, c.loop-place.auto.place-end, c.loop-place-test.false) in
    all_more logs lost (steps_behind logs lost order) order c.loop-place.place given made c.loop-place.self last (c.loop-place.invariant given made has)
