use Rattle.std.proofs.Common.{◌≡◌, ◌++◌, drop}
use Rattle.std.specs.List.{flat_map}
use Rattle.pg_group.specs.Scope.{in_scope}
use Rattle.pg_index_members.specs.Rows.{spread}
use Rattle.pg_index_members.proofs.level.LevelPart.list.Given as goal

-- the members so far and those to come
abbrev pub invariant-loop-part : goal.invariant-loop-part
invariant-loop-part g l = l.pids.items ++ spread (in_scope l.scope) (flat_map g.P.Part.rows (drop l.part-index l.part-items)) ≡ l.fn.pids.items ++ spread (in_scope l.scope) l.self
