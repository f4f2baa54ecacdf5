use Rattle.std.proofs.Common.{◌+◌, length, take}
use Rattle.pg_node_state.specs.PgTermIo.Writing.{list_head}
use Rattle.pg_node.proofs.Announced.Listings.{Walked}
use Rattle.pg_node.proofs.node.announced.groups_len.Given as goal

abbrev pub invariant-loop-place : goal.invariant-loop-place
invariant-loop-place g l = Walked (g.T.GroupTable.contents l.table) (take l.place (g.T.GroupsByPlace.order l.table)) (length (list_head l.count) + 1) l.are_names l.len
