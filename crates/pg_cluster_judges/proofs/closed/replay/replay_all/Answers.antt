use Rattle.std.proofs.Common.{length, map, sym}
use Rattle.std.proofs.lemmas.List.{length-map}
use Rattle.pg_cluster_judges.specs.Replay.{HasMadeAll, MadeOn}
use Rattle.pg_cluster_judges.specs.Schedule.{steps_behind}
use Rattle.pg_cluster_judges.proofs.GoingOn.{made_all}
use Rattle.pg_cluster_judges.proofs.Judging.{ok_so}
use Rattle.pg_cluster_judges.proofs.closed.replay.replay_all.Goals as goal

pub returns-in-Ok-clause-ok : goal.returns-in-Ok-clause-ok
returns-in-Ok-clause-ok c =
    let given = c.args.config.now.starts.items in
    let logs = map (λ v. v.items) c.args.logs.now in
    let lost = c.args.lost.now in
    let order = c.args.order.now in
    ok_so (MadeOn given c.as_slice.result.now (steps_behind logs lost order)) (HasMadeAll given logs lost order) c.replay_behind.result
    (λ replay on. made_all given logs lost order (length c.args.logs.now) c.in-Ok.first.items c.as_slice.result.now replay (sym (length-map c.args.logs.now (λ v. v.items))) c.as_slice.ensures.value c.in-Ok.ensures on)
    c.replay_behind.ensures.ok
