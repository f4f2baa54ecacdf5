use Rattle.pg_world_packets.proofs.OrderedOnce.{only_memory}
use Rattle.pg_world_packets.proofs.laws.refusals_are_exact.Goals as goal

pub returns : goal.returns
returns c = only_memory c.configs_are_decided.ensures
