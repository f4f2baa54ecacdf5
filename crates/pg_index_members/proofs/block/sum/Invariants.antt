use Rattle.std.proofs.Common.{◌≡◌, ◌+◌, drop}
use Rattle.pg_index_members.specs.Rows.{total_of}
use Rattle.pg_index_members.proofs.block.sum.Given as goal

-- the rows so far, and those to come
abbrev pub invariant-loop-row : goal.invariant-loop-row
invariant-loop-row l = l.total + total_of (drop l.row-index l.rows) ≡ total_of l.rows
