use Rattle.std.proofs.Common.{◌≡◌, take}
use Rattle.pg_lock.proofs.table.copy_sorted.Given as goal

-- the holders so far
abbrev pub invariant-loop-name : goal.invariant-loop-name
invariant-loop-name l = l.copies.items ≡ take l.name-index l.holders
