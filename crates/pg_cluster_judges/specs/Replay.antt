-- Steps that a world made from the start of a configuration.
use Rattle.std.specs.Prelude.{◌≡◌, ℕ, Bool, List, ◌++◌, map}
use Rattle.pg_node_run.specs.declared.log.NodeEvent.{NodeEvent}
use Rattle.pg_world.specs.PgStep.Config.{Config}
use Rattle.pg_world.specs.PgWorldPackets.declared.step.FrameStep.{FrameStep}
use Rattle.pg_world.specs.PgWorldPackets.FrameWorlds.{lost_of, view_of}
use Rattle.pg_world.specs.PgWorldPackets.Losing.{ShowsLosing}
use Rattle.pg_world.specs.PgWorldPackets.Past.{RanFrames}
use Rattle.pg_cluster_judges.specs.declared.closed.replay.Replay.{Replay}
use Rattle.pg_cluster_judges.specs.Schedule.{AreSteps, SeenStep, seen_step}

-- A world made these steps, which have these numbers, and all holds of it that a run tells.
abbrev pub HasMade : Config → List FrameStep → Replay → Type 0
HasMade given steps replay = RanFrames given steps replay.numbers.items (λ config. ShowsLosing config (view_of replay.world) (lost_of replay.world))

-- Behind steps that it had made it made some that are seen so.
pub record MadeOn (given : Config) (made : List FrameStep) (seen : List SeenStep) (replay : Replay) : Type 0 where
  pub more : List FrameStep
  pub are : map seen_step more ≡ seen
  pub has : HasMade given (made ++ more) replay

-- It made all that the entries of these logs are, in this order, and the losses of these nodes in their places.
pub record HasMadeAll (given : Config) (logs : List (List (ℕ × NodeEvent))) (lost : List Bool) (order : List (ℕ × ℕ)) (replay : Replay) : Type 0 where
  pub steps : List FrameStep
  pub are : AreSteps logs lost order steps
  pub has : HasMade given steps replay
