use Rattle.std.proofs.Common.{◌≡◌, take}
use Rattle.pg_node_state.specs.PgStep.Config.{names_of}
use Rattle.pg_world_config.proofs.starts.names_in.Given as goal

abbrev pub invariant-loop-start : goal.invariant-loop-start
invariant-loop-start l = l.names.items ≡ names_of (take l.start-index l.starts)
