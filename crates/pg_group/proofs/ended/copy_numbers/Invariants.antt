use Rattle.std.proofs.Common.{◌≡◌, ◌++◌}
use Rattle.pg_group.proofs.ended.copy_numbers.Given as goal

-- the nodes so far, and those to come
abbrev pub invariant-loop-node : goal.invariant-loop-node
invariant-loop-node l = l.copy.entries ++ l.node-iterator ≡ l.numbers.entries
