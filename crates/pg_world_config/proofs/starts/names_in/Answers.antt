use Rattle.pg_world_config.proofs.Starting.{names_more}
use Rattle.pg_world_config.proofs.starts.names_in.Goals as goal

pub loop-start-preserved : goal.loop-start-preserved
loop-start-preserved c =
    names_more c.args.starts.now c.loop-start.start-index c.start-item.result c.loop-start.names.items c.push.new.self.items c.in_ok-copy.field-0 c.loop-start-test.true c.start-item.is c.loop-start.invariant c.in_ok-push.ensures.items c.in_ok-copy.ensures
