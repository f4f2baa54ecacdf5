use mathlib.Core.Logic.{∥∥₁_map}
use Rattle.pg_world.specs.ByteWorlds.{account_of, crossing_of, given_of, lost_of}
use Rattle.pg_world.proofs.over_bytes.Leading.{bytes_formed}
use Rattle.pg_world.proofs.byte_world.World.formed_at_first_loss.Goals as goal

pub returns-clause-run : goal.returns-clause-run
returns-clause-run g c =
    let world = c.args.self.now in
    ∥∥₁_map world.past (bytes_formed (given_of world) (crossing_of world) (account_of world) (lost_of world) c.formed_at_first_loss.result c.formed_at_first_loss.ensures)
