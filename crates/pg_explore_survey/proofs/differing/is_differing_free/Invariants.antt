use Rattle.std.proofs.Common.{true, take}
use Rattle.pg_script.specs.PgWorldPackets.FrameWorlds.{lost_of, traffic_of}
use Rattle.pg_explore_survey.specs.Differing.{DifferFreeOn}
use Rattle.pg_explore_survey.proofs.Looking.{NoName}
use Rattle.pg_explore_survey.proofs.differing.is_differing_free.Given as goal

-- none of the first names
abbrev pub invariant-loop-name : goal.invariant-loop-name
invariant-loop-name l = NoName (λ name. DifferFreeOn (traffic_of l.world).nodes (lost_of l.world) l.count name) (take l.name-index l.names)
