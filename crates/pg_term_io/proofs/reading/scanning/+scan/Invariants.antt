use Rattle.std.proofs.Common.{◌≡◌, ◌-◌, ◌+◌, ◌*◌}
use Rattle.pg_term_io.specs.Scanning.{over_all, over_item}
use Rattle.pg_term_io.proofs.reading.scanning.+scan.Given as goal

abbrev pub decreases-item : goal.decreases-item
decreases-item l = 8 * l.room

abbrev pub decreases-tail : goal.decreases-tail
decreases-tail l = 8 * l.room

abbrev pub decreases-items : goal.decreases-items
decreases-items l = 8 * l.room + 1

abbrev pub decreases-list : goal.decreases-list
decreases-list l = 8 * l.room + 2

abbrev pub decreases-elements : goal.decreases-elements
decreases-elements l = 8 * l.room + 3

abbrev pub decreases-behind : goal.decreases-behind
decreases-behind l = 8 * l.room + 4

abbrev pub invariant-items-loop : goal.invariant-items-loop
invariant-items-loop l = over_all (over_item l.room) (l.count - l.counter) l.rest ≡ over_all (over_item l.room) l.count l.bytes
