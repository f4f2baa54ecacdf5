use Rattle.std.proofs.Common.{◌≡◌, ◌++◌, map, take}
use Rattle.pg_group.specs.Numbers.{pid_at}
use Rattle.pg_group.proofs.chunk.Chunk.list.Given as goal

-- the pids of the numbers so far
abbrev pub invariant-loop-number : goal.invariant-loop-number
invariant-loop-number l = l.pids.items ≡ l.fn.pids.items ++ map (pid_at l.node) (take l.number-index l.number-items)
