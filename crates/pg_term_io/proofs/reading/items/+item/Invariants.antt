use Rattle.std.proofs.Common.{◌≡◌, ◌-◌, ◌+◌, ◌*◌}
use Rattle.pg_term_io.specs.Reading.{items_at, item_at, with_front}
use Rattle.pg_term_io.proofs.reading.items.+item.Given as goal

abbrev pub decreases-item : goal.decreases-item
decreases-item l = 8 * l.room

abbrev pub decreases-tail : goal.decreases-tail
decreases-tail l = 8 * l.room

abbrev pub decreases-items : goal.decreases-items
decreases-items l = 8 * l.room + 1

abbrev pub decreases-fields : goal.decreases-fields
decreases-fields l = 8 * l.room + 2

abbrev pub decreases-list_at : goal.decreases-list_at
decreases-list_at l = 8 * l.room + 3

abbrev pub decreases-elements : goal.decreases-elements
decreases-elements l = 8 * l.room + 4

abbrev pub decreases-list : goal.decreases-list
decreases-list l = 8 * l.room + 5

abbrev pub decreases-item_behind : goal.decreases-item_behind
decreases-item_behind l = 8 * l.room + 6

abbrev pub invariant-items-loop-index : goal.invariant-items-loop-index
invariant-items-loop-index l = with_front l.terms.items (items_at (item_at l.room) (l.count - l.index) l.rest) ≡ with_front l.fn.terms.items (items_at (item_at l.room) l.count l.bytes)
