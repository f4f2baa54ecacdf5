use Rattle.std.proofs.Common.{◌∙◌, ap, sym}
use mathlib.Core.Logic.{∥∥₁_map}
use Rattle.pg_world_config.specs.declared.config.Config.{Config as Given}
use Rattle.pg_world_packets.specs.FrameWorlds.{view_of, lost_of, given_of}
use Rattle.pg_world_packets.specs.Losing as losing
use Rattle.pg_world_packets.specs.Worlds as nodes
use Rattle.pg_world_packets.proofs.Copied.{past_too}
use Rattle.pg_world_packets.proofs.frame_world.FrameWorld.copy.Goals as goal

pub invariant_of-result : goal.invariant_of-result
invariant_of-result g c =
    let world = c.args.self.now in
    record {
      past = ∥∥₁_map world.past (past_too (given_of world) c.of-given.result.value.starts.items (view_of world) (nodes.view_of c.in_ok-frames.frames) (lost_of world) (losing.lost_of c.in_ok-frames.frames)
          (ap (λ (config : Given). config.starts.items) c.of-given.ensures ∙ sym c.requires.given) c.in_ok-frames.ensures.view c.in_ok-frames.ensures.lost);
    }
