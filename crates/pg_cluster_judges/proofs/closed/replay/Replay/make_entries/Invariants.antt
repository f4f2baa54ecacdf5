use Rattle.std.proofs.Common.{List, drop, map}
use Rattle.pg_world.specs.PgStep.Config.{Config}
use Rattle.pg_world.specs.PgWorldPackets.declared.step.FrameStep.{FrameStep}
use Rattle.pg_cluster_judges.specs.Replay.{HasMade}
use Rattle.pg_cluster_judges.specs.Schedule.{steps_behind}
use Rattle.pg_cluster_judges.proofs.GoingOn.{MadeSoFar}
use Rattle.pg_cluster_judges.proofs.closed.replay.Replay.make_entries.Given as goal

-- what the entries that are left are goes behind the steps so far
abbrev pub invariant-loop-place : goal.invariant-loop-place
invariant-loop-place l =
    (given : Config) (made : List FrameStep) → HasMade given made l.fn.self
    → MadeSoFar (map (λ v. v.items) l.logs) l.lost (steps_behind (map (λ v. v.items) l.logs) l.lost l.order) (drop l.place l.order) given made l.self
