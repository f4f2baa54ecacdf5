use Rattle.std.proofs.Common.{true, take}
use Rattle.pg_script.specs.PgWorldPackets.FrameWorlds.{lost_of, traffic_of}
use Rattle.pg_explore_survey.specs.Differing.{Sees}
use Rattle.pg_explore_survey.proofs.Looking.{NoName}
use Rattle.pg_explore_survey.proofs.differing.is_held.Given as goal

-- none of the first names
abbrev pub invariant-loop-name : goal.invariant-loop-name
invariant-loop-name l = NoName (λ name. Sees (traffic_of l.world).nodes (lost_of l.world) true l.count name) (take l.name-index l.names)
