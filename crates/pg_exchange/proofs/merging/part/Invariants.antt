use Rattle.std.proofs.Common.{◌≡◌, Bool}
use Rattle.std.specs.Vec.Iter.{into_iter_items}
use Rattle.pg_term.specs.declared.pid.Pid.{Pid}
use Rattle.pg_group.specs.Table.{Table, AreAbsent}
use Rattle.pg_exchange.specs.GroupList.{all_merged}
use Rattle.pg_exchange.specs.Undone.{ArePresent}
use Rattle.pg_exchange.proofs.merging.part.Given as goal

-- both parts so far, and what is left
abbrev pub invariant-loop-group : goal.invariant-loop-group
invariant-loop-group g l = record {
  present : ArePresent (g.T.GroupTable.contents l.table) l.present.items;
  absent : AreAbsent (g.T.GroupTable.contents l.table) l.absent.items;
  all : (before : Table) (ended : Pid → Bool) → all_merged (all_merged (all_merged before l.present.items ended) l.absent.items ended) (into_iter_items l.group-iterator) ended ≡ all_merged before l.fn.groups.items ended;
}
