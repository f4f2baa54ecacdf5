use Rattle.std.proofs.Common.{◌≡◌, take}
use Rattle.pg_index_members.proofs.block.BlockPart.copy.Given as goal

-- the rows so far
abbrev pub invariant-loop-row : goal.invariant-loop-row
invariant-loop-row l = l.rows.items ≡ take l.row-index l.self
