use Rattle.std.proofs.Common.{◌≡◌, take, length}
use Rattle.pg_node_state.specs.PgStep.Config.{Config}
use Rattle.pg_node_state.specs.PgStep.LossLaws.{LosingFrameWorld}
use Rattle.pg_world_packets.specs.FrameWorlds.{given_of, lost_of, view_of}
use Rattle.pg_world_packets.specs.Losing.{ShowsLosing}
use Rattle.pg_world_packets.specs.Runs.{GoesTo, LosesNone}
use Rattle.pg_world_packets.proofs.frame_world.FrameWorld.run.Given as goal

abbrev pub invariant-loop-place : goal.invariant-loop-place
invariant-loop-place g l = record {
  len : length l.numbers.items ≡ length l.steps;
  given : given_of l.self ≡ given_of l.fn.self;
  lost : LosesNone l.steps → lost_of l.self ≡ lost_of l.fn.self;
  runs : (config : Config) (u : LosingFrameWorld) → ShowsLosing config (view_of l.fn.self) (lost_of l.fn.self) u
      → GoesTo config u (take l.place l.steps) (take l.place l.numbers.items) (ShowsLosing config (view_of l.self) (lost_of l.self));
}
