use Rattle.pg_script.specs.PgWorldPackets.FrameWorlds.{lost_of, traffic_of}
use Rattle.pg_script.specs.PgWorldConfig.Seen.{seen_of}
use Rattle.pg_explore_survey.proofs.Looking.{SameBefore}
use Rattle.pg_explore_survey.proofs.differing.is_other.Given as goal

-- the first nodes have the same
abbrev pub invariant-loop-place : goal.invariant-loop-place
invariant-loop-place l = SameBefore (traffic_of l.world).nodes (lost_of l.world) l.name (seen_of l.first) l.place
