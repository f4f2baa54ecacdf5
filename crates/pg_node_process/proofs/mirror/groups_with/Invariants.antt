use Rattle.std.proofs.Common.{◌≡◌, nat_lt, take}
use Rattle.std.specs.List.{filter}
use Rattle.pg_step.specs.PgGroup.Value.{count_in}
use Rattle.pg_node_process.proofs.mirror.groups_with.Given as goal

-- the groups so far in which it counts
abbrev pub invariant-loop-place : goal.invariant-loop-place
invariant-loop-place g l = l.names.items ≡ filter (λ name. nat_lt 0 (count_in (g.T.GroupTable.contents l.table name) l.pid)) (take l.place (g.T.GroupsByPlace.order l.table))
