use Rattle.std.proofs.Common.{◌≡◌, drop, slice_get}
use Rattle.std.specs.List.{flat_map}
use Rattle.pg_group.specs.Scope.{anywhere}
use Rattle.pg_index_members.specs.Rows.{spread}
use Rattle.pg_index_members.proofs.level.LevelPart.at.Given as goal

-- the place among the members to come
abbrev pub invariant-loop-part : goal.invariant-loop-part
invariant-loop-part g l = slice_get (spread anywhere (flat_map g.P.Part.rows (drop l.part-index l.part-items))) l.left ≡ slice_get (spread anywhere l.self) l.fn.place
