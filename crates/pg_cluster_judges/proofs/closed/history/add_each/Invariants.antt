use Rattle.std.proofs.Common.{◌≡◌, ◌++◌, take}
use Rattle.pg_cluster_judges.proofs.closed.history.add_each.Given as goal

-- the entries so far
abbrev pub invariant-loop-entry : goal.invariant-loop-entry
invariant-loop-entry l = l.copies.items ≡ l.fn.copies.items ++ take l.entry-index l.entries
