use Rattle.std.proofs.Common.{◌∙◌, ◌++◌, ap, map}
use Rattle.pg_cluster_judges.specs.Schedule.{seen_step, steps_at}
use Rattle.pg_cluster_judges.proofs.GoingOn.{seen_if}
use Rattle.pg_cluster_judges.proofs.closed.replay.Replay.make_entry.Goals as goal

pub returns-in-Ok : goal.returns-in-Ok
returns-in-Ok c =
    let at = steps_at (map (λ v. v.items) c.args.logs.now) c.args.lost.now c.args.at c.args.later.now in
    seen_if c.make.result c.args.self.now c.make.new.self c.as_slice.result.now at
    (ap (map seen_step) c.as_slice.ensures.value ∙ (c.in-Ok.ensures ∙ ap (λ steps. map seen_step steps ++ at) c.new-steps.ensures.items)) c.make.ensures
