use Rattle.pg_script.specs.PgWorldPackets.FrameWorlds.{lost_of, traffic_of}
use Rattle.pg_explore_survey.proofs.Looking.{HasLive, NoPlace}
use Rattle.pg_explore_survey.proofs.differing.first_live.Given as goal

-- none of the first nodes
abbrev pub invariant-loop-place : goal.invariant-loop-place
invariant-loop-place l = NoPlace (HasLive (traffic_of l.world).nodes (lost_of l.world)) l.place
