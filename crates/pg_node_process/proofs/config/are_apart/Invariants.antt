use Rattle.std.proofs.Common.{◌≡◌, length}
use Rattle.pg_node_process.specs.Configs.{are_apart}
use Rattle.pg_node_process.proofs.config.are_apart.Given as goal

abbrev pub invariant-loop-left : goal.invariant-loop-left
invariant-loop-left l = are_apart l.left ≡ are_apart l.names

abbrev pub decreases-loop-left : goal.decreases-loop-left
decreases-loop-left l = length l.left
