use Rattle.pg_script.specs.Rounds.{view_of}
use Rattle.pg_script.proofs.Rounding.{rows_more}
use Rattle.pg_script.proofs.settling.round.Goals as goal

pub loop-from-preserved : goal.loop-from-preserved
loop-from-preserved c =
    rows_more c.args.count c.loop-from.from c.loop-from.moved c.in_ok-was_moved.was_moved c.either-moved.result
    (view_of c.args.stage.now.world) (view_of c.loop-from.stage.world) (view_of c.row.new.stage.world) c.loop-from.invariant c.in_ok-was_moved.ensures c.either-moved.ensures
