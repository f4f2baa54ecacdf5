use Rattle.std.proofs.Common.{◌≡◌, take}
use Rattle.pg_world_account.proofs.entry.copy_entries.Given as goal

-- the entries so far
abbrev pub invariant-loop-entry : goal.invariant-loop-entry
invariant-loop-entry l = l.copies.items ≡ take l.entry-index l.entries
