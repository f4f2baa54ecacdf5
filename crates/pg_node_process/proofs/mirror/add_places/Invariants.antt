use Rattle.std.proofs.Common.{take}
use Rattle.pg_node_process.proofs.Mirroring.{AddsRows}
use Rattle.pg_node_process.proofs.mirror.add_places.Given as goal

-- the groups so far
abbrev pub invariant-loop-place : goal.invariant-loop-place
invariant-loop-place g l = AddsRows (take l.place (g.T.GroupsByPlace.order l.table)) (g.T.GroupTable.contents l.table) l.fn.outlet.gathered.items l.outlet.gathered.items l.fn.batch.terms.items l.batch.terms.items
