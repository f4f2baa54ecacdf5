use Rattle.std.proofs.Common.{◌<◌, ◌-◌, ℕ, length, get_or}
use Rattle.pg_cluster.specs.Ended.{ArrivedAt, SameRow, SameRows, NodeRow}
use Rattle.pg_cluster.proofs.pairs.settle_last.Given as goal

abbrev pub invariant-loop-place : goal.invariant-loop-place
invariant-loop-place l =
    SameRows l.fn.rows.items l.rows.items
    × SameRow l.fn.row.items l.row.items
    × ((x : ℕ) (none : NodeRow) → x < l.place → ArrivedAt (get_or l.fn.rows.items x none).items (length l.fn.rows.items - 1) l.fn.row.items x)
