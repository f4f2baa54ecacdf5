use Rattle.std.proofs.Common.{◌≡◌, take}
use Rattle.std.specs.List.{flat_map}
use Rattle.pg_index_members.specs.Levels.{NoneEmpty}
use Rattle.pg_index_members.proofs.level.LevelPart.copy.Given as goal

-- the parts so far
abbrev pub invariant-loop-part : goal.invariant-loop-part
invariant-loop-part g l = record {
  rows : flat_map g.P.Part.rows l.parts.items ≡ flat_map g.P.Part.rows (take l.part-index l.part-items);
  some : NoneEmpty g.P.Part.rows l.parts.items;
}
