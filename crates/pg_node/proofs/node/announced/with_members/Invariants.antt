use Rattle.std.proofs.Common.{◌-◌}
use Rattle.pg_node.specs.Announced.{too_long}
use Rattle.pg_node.proofs.Announced.Lengths.{Counted}
use Rattle.pg_node.proofs.node.announced.with_members.Given as goal

abbrev pub invariant-loop-pid : goal.invariant-loop-pid
invariant-loop-pid g l = Counted (g.T.GroupTable.contents l.table l.name) l.before l.len l.place

abbrev pub decreases-loop-pid : goal.decreases-loop-pid
decreases-loop-pid g l = too_long - l.len
