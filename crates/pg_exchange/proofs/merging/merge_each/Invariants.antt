use Rattle.std.proofs.Common.{◌≡◌, length, map, take}
use Rattle.pg_group.specs.Ended.{ended_of}
use Rattle.pg_exchange.specs.GroupList.{all_merged}
use Rattle.pg_exchange.specs.Undone.{noted, undone}
use Rattle.pg_exchange.proofs.merging.merge_each.Given as goal

-- the groups so far, and what leads back from them
abbrev pub invariant-loop-name : goal.invariant-loop-name
invariant-loop-name g l =
    (g.T.GroupTable.contents l.table ≡ all_merged (g.T.GroupTable.contents l.initial.table) (take l.name-index l.groups) (ended_of l.ended))
    × (length l.before.items ≡ l.name-index)
    × (undone (g.T.GroupTable.contents l.table) l.groups (map noted l.before.items) ≡ g.T.GroupTable.contents l.initial.table)
