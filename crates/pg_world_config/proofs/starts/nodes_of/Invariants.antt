use Rattle.std.proofs.Common.{◌≡◌, map}
use Rattle.pg_world_config.specs.Seen.{seen_of}
use Rattle.pg_world_config.specs.Firsts.{firsts}
use Rattle.pg_world_config.proofs.starts.nodes_of.Given as goal

abbrev pub invariant-loop-place : goal.invariant-loop-place
invariant-loop-place l = map seen_of l.nodes.items ≡ firsts l.starts l.place
