use Rattle.std.proofs.Common.{◌≡◌, ◌++◌}
use Rattle.std.specs.HashMap.{keys}
use Rattle.pg_index.proofs.index_table.IndexTableGroupTable.groups.Given as goal

-- the names so far and those to come
abbrev pub invariant-loop-name : goal.invariant-loop-name
invariant-loop-name l = l.names.items ++ l.name-iterator ≡ keys l.self.numbers
