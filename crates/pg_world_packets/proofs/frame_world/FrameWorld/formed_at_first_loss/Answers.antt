use mathlib.Core.Logic.{∥∥₁_map}
use Rattle.pg_world_packets.specs.FrameWorlds.{view_of, lost_of, given_of}
use Rattle.pg_world_packets.proofs.Leading.{frames_formed}
use Rattle.pg_world_packets.proofs.frame_world.FrameWorld.formed_at_first_loss.Goals as goal

pub returns-clause-run : goal.returns-clause-run
returns-clause-run g c =
    let world = c.args.self.now in
    ∥∥₁_map world.past (frames_formed (given_of world) (view_of world) (lost_of world) c.formed_at_first_loss.result c.formed_at_first_loss.ensures)
