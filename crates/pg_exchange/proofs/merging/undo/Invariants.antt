use Rattle.std.proofs.Common.{◌≡◌, ◌≤◌, length, map}
use Rattle.pg_exchange.specs.Undone.{noted, undone}
use Rattle.pg_exchange.proofs.merging.undo.Given as goal

-- what is left to be led back leads where all of it led
abbrev pub invariant-loop-counts : goal.invariant-loop-counts
invariant-loop-counts g l =
    (length l.before.items ≤ length l.groups)
    × (undone (g.T.GroupTable.contents l.table) l.groups (map noted l.before.items) ≡ undone (g.T.GroupTable.contents l.initial.table) l.groups (map noted l.initial.before.items))

abbrev pub decreases-loop-counts : goal.decreases-loop-counts
decreases-loop-counts g l = length l.before.items
