use Rattle.std.proofs.Common.{◌≡◌}
use Rattle.std.specs.Vec.Iter.{into_iter_items}
use Rattle.pg_group.specs.Ended.{ended_of}
use Rattle.pg_group.specs.Table.{all_merged, AreAbsent}
use Rattle.pg_index.specs.Grown.{IsGrown}
use Rattle.pg_index.specs.Index.{table_of}
use Rattle.pg_index.proofs.index_table.IndexTable.merge_each.Given as goal

-- what is left to be merged leads where all of it led
abbrev pub invariant-loop-name : goal.invariant-loop-name
invariant-loop-name l = record {
  rest : all_merged (table_of l.self.numbers l.self.memberships) (into_iter_items l.name-iterator) (ended_of l.ended) ≡ all_merged (table_of l.initial.self.numbers l.initial.self.memberships) l.fn.groups.items (ended_of l.ended);
  absent : AreAbsent (table_of l.initial.self.numbers l.initial.self.memberships) (into_iter_items l.name-iterator);
  kept : IsGrown l.initial.self.numbers l.initial.self.memberships l.self.numbers l.self.memberships;
}
