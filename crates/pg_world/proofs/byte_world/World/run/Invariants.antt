use Rattle.std.proofs.Common.{◌≡◌, take, length}
use Rattle.pg_world_packets.specs.PgStep.Config.{Config}
use Rattle.pg_world.specs.ByteWorlds.{account_of, crossing_of, given_of, lost_of, room_of}
use Rattle.pg_world_packets.specs.PgStep.LossLaws.{LosingFrameWorld}
use Rattle.pg_world.specs.BytesLosing.{ShowsLosingBytes}
use Rattle.pg_world_packets.specs.Losing.{IsReachedLosing}
use Rattle.pg_world.specs.CrossingRuns.{CrossesTo, NobodyLost}
use Rattle.pg_world.proofs.byte_world.World.run.Given as goal

abbrev pub invariant-loop-place : goal.invariant-loop-place
invariant-loop-place g l = record {
  len : length l.numbers.items ≡ length l.steps;
  given : given_of l.self ≡ given_of l.fn.self;
  room : room_of l.self ≡ room_of l.fn.self;
  lost : NobodyLost l.steps → lost_of l.self ≡ lost_of l.fn.self;
  crosses : (config : Config) (u : LosingFrameWorld) → IsReachedLosing config u → ShowsLosingBytes config (crossing_of l.fn.self) (account_of l.fn.self) (lost_of l.fn.self) u
      → CrossesTo config (room_of l.fn.self) (crossing_of l.fn.self) u (take l.place l.steps) (take l.place l.numbers.items) (crossing_of l.self)
      (ShowsLosingBytes config (crossing_of l.self) (account_of l.self) (lost_of l.self));
}
