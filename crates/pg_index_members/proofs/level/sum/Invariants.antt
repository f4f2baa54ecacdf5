use Rattle.std.proofs.Common.{◌≡◌, ◌+◌, drop}
use Rattle.std.specs.List.{flat_map}
use Rattle.pg_index_members.specs.Rows.{total_of}
use Rattle.pg_index_members.proofs.level.sum.Given as goal

-- the parts so far, and those to come
abbrev pub invariant-loop-part : goal.invariant-loop-part
invariant-loop-part g l = l.total + total_of (flat_map g.P.Part.rows (drop l.part-index l.parts)) ≡ total_of (flat_map g.P.Part.rows l.parts)
