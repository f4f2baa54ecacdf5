use Rattle.std.proofs.Common.{◌≡◌, drop, slice_get}
use Rattle.pg_group.specs.Scope.{anywhere}
use Rattle.pg_index_members.specs.Rows.{spread}
use Rattle.pg_index_members.proofs.block.BlockPart.at.Given as goal

-- the place among the members to come
abbrev pub invariant-loop-row : goal.invariant-loop-row
invariant-loop-row l = slice_get (spread anywhere (drop l.row-index l.self)) l.left ≡ slice_get (spread anywhere l.self) l.fn.place
