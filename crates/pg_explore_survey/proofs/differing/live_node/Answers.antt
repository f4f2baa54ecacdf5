use Rattle.std.proofs.Common.{◌≡◌, Bool, sym, subst}
use Rattle.std.specs.Prelude.{option_map}
use Rattle.std.specs.Option.{option_copied}
use Rattle.pg_script.specs.PgWorldPackets.FrameWorlds.{lost_of, traffic_of}
use Rattle.pg_script.specs.PgWorldConfig.Seen.{seen_of}
use Rattle.pg_explore_survey.specs.Differing.{LiveOf}
use Rattle.pg_explore_survey.proofs.Looking.{live_at}
use Rattle.pg_explore_survey.proofs.differing.live_node.Goals as goal

pub returns-in-Some : goal.returns-in-Some
returns-in-Some c =
    let nodes = (traffic_of c.args.world.now).nodes in
    let lost = lost_of c.args.world.now in
    let node = seen_of c.in-Some.node.now in
    live_at nodes lost c.args.place node (option_map seen_of (option_copied c.live.result)) (sym c.in-Some.ensures)
    (subst (λ (b : Bool). LiveOf node b (option_map seen_of (option_copied c.live.result))) c.is_lost.ensures c.live.ensures)
