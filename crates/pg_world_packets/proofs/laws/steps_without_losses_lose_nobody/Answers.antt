use Rattle.pg_world_packets.proofs.Running.{nobody_more}
use Rattle.pg_world_packets.proofs.laws.steps_without_losses_lose_nobody.Goals as goal

pub returns : goal.returns
returns c = nobody_more
