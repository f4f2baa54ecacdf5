use Rattle.std.proofs.Common.{◌≡◌, map, take}
use Rattle.pg_group.specs.Value.{count_in}
use Rattle.pg_exchange.proofs.merging.counts_of.Given as goal

-- the counts so far
abbrev pub invariant-loop-pid : goal.invariant-loop-pid
invariant-loop-pid g l = l.counts.items ≡ map (count_in (g.T.GroupTable.contents l.table l.name)) (take l.pid-index l.pids)
