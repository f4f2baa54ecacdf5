use Rattle.std.proofs.Common.{◌≡◌, ◌++◌, map, take}
use Rattle.pg_group.specs.Numbers.{all_numbers, pid_at}
use Rattle.pg_group.proofs.numbers.list.Given as goal

-- the pids of the chunks so far
abbrev pub invariant-loop-chunk : goal.invariant-loop-chunk
invariant-loop-chunk l = l.pids.items ≡ l.fn.pids.items ++ map (pid_at l.node) (all_numbers (take l.chunk-index l.chunks))
