use Rattle.std.proofs.Common.{◌≡◌, take}
use Rattle.pg_group.specs.Ended.{ended_of}
use Rattle.pg_group.specs.Rows.{table_of}
use Rattle.pg_group.specs.Table.{all_merged}
use Rattle.pg_group.proofs.rows.merge_all.Given as goal

-- the groups so far
abbrev pub invariant-loop-name : goal.invariant-loop-name
invariant-loop-name l = table_of l.rows ≡ all_merged (table_of l.initial.rows) (take l.name-index l.groups) (ended_of l.ended)
