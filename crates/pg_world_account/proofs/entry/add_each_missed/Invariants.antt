use Rattle.std.proofs.Common.{◌≡◌, ◌++◌, map, take}
use Rattle.pg_laws_losses.specs.Remains.Missed.{missed_of}
use Rattle.pg_world_account.specs.Histories.{as_entry, as_marked, is_among}
use Rattle.pg_world_account.proofs.entry.add_each_missed.Given as goal

-- those among the entries so far
abbrev pub invariant-loop-entry : goal.invariant-loop-entry
invariant-loop-entry l = map as_entry l.missed.items ≡ map as_entry l.initial.missed.items ++ missed_of (is_among l.seen) (map (as_marked l.node) (take l.entry-index l.entries))
