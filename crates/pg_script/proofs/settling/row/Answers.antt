use Rattle.pg_script.specs.Rounds.{view_of}
use Rattle.pg_script.proofs.Rounding.{row_more}
use Rattle.pg_script.proofs.settling.row.Goals as goal

pub loop-to-preserved : goal.loop-to-preserved
loop-to-preserved c =
    row_more c.args.from c.loop-to.to c.loop-to.moved c.in_ok-was_moved.was_moved c.either-moved.result
    (view_of c.args.stage.now.world) (view_of c.loop-to.stage.world) (view_of c.pass_if.new.stage.world) c.loop-to.invariant c.in_ok-was_moved.ensures c.either-moved.ensures
