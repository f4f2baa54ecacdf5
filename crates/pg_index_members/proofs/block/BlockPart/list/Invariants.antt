use Rattle.std.proofs.Common.{◌≡◌, ◌++◌, drop}
use Rattle.pg_group.specs.Scope.{in_scope}
use Rattle.pg_index_members.specs.Rows.{spread}
use Rattle.pg_index_members.proofs.block.BlockPart.list.Given as goal

-- the members so far and those to come
abbrev pub invariant-loop-row : goal.invariant-loop-row
invariant-loop-row l = l.pids.items ++ spread (in_scope l.scope) (drop l.row-index l.self) ≡ l.fn.pids.items ++ spread (in_scope l.scope) l.self
