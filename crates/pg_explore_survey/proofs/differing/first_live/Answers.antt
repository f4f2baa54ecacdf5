use Rattle.pg_script.specs.PgWorldPackets.FrameWorlds.{lost_of, traffic_of}
use Rattle.pg_explore_survey.proofs.Looking.{HasLive, no_live, no_more_place, none_live}
use Rattle.pg_explore_survey.proofs.differing.first_live.Goals as goal

pub loop-place-preserved : goal.loop-place-preserved
loop-place-preserved c =
    let nodes = (traffic_of c.args.world.now).nodes in
    let lost = lost_of c.args.world.now in
    no_more_place (HasLive nodes lost) c.loop-place.place c.loop-place.invariant (no_live nodes lost c.loop-place.place c.in_default.ensures)

pub returns : goal.returns
returns c = none_live (traffic_of c.args.world.now).nodes (lost_of c.args.world.now) c.args.count c.loop-place.place c.loop-place-test.false c.loop-place.invariant
