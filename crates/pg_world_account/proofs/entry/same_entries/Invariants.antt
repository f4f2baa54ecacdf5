use Rattle.std.proofs.Common.{◌≡◌, map, take}
use Rattle.pg_world_account.specs.Histories.{as_entry}
use Rattle.pg_world_account.proofs.entry.same_entries.Given as goal

-- those so far are the same
abbrev pub invariant-loop-place : goal.invariant-loop-place
invariant-loop-place l = take l.place (map as_entry l.entries) ≡ take l.place (map as_entry l.others)
