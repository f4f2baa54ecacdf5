use Rattle.std.proofs.Common.{◌∙◌, map, ap}
use Rattle.pg_world_config.specs.Seen.{seen_of}
use Rattle.pg_world_config.proofs.Starting.{firsts_more}
use Rattle.pg_world_config.proofs.starts.nodes_of.Goals as goal

pub loop-place-preserved : goal.loop-place-preserved
loop-place-preserved c = ap (map seen_of) c.in_ok-push.ensures.items ∙ firsts_more c.args.starts.now c.loop-place.nodes.items c.in_ok-node_at.field-0 c.loop-place.place c.loop-place.invariant c.in_ok-node_at.ensures
