use Rattle.pg_cluster_judges.proofs.GoingOn.{made_if}
use Rattle.pg_cluster_judges.proofs.closed.replay.Replay.make.Goals as goal

pub returns : goal.returns
returns c =
    made_if c.extend_from_slice.result c.args.self.now (record { world = c.run.new.self; numbers = c.extend_from_slice.new.self }) c.args.steps.now c.run.new.numbers.items c.as_slice.result.now
    c.each_world_past_losses.ensures c.run.ensures.runs c.as_slice.ensures.value c.extend_from_slice.ensures.items
