use Rattle.std.proofs.Common.{take}
use Rattle.pg_node_process.proofs.Mirroring.{AddsRows}
use Rattle.pg_node_process.proofs.mirror.add_named.Given as goal

-- the groups so far
abbrev pub invariant-loop-name : goal.invariant-loop-name
invariant-loop-name g l = AddsRows (take l.name-index l.names) (g.T.GroupTable.contents l.table) l.fn.outlet.gathered.items l.outlet.gathered.items l.fn.batch.terms.items l.batch.terms.items
