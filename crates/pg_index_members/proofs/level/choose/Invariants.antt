use Rattle.std.proofs.Common.{◌+◌, ◌-◌, ◌≡◌, ◌≤◌, ◌<◌, true, false, length, get_or, take}
use Rattle.std.specs.List.{AllByRecursion, flat_map}
use Rattle.pg_index_members.specs.Edges.{before}
use Rattle.pg_index_members.specs.Rows.{all_before}
use Rattle.pg_index_members.proofs.level.choose.Given as goal

-- the parts below `low` stand before the edge, the one at `high` does not, unless it is the last
abbrev pub invariant-loop-low : goal.invariant-loop-low
invariant-loop-low g l = record {
  in_order : l.low ≤ l.high;
  within : l.high < length l.parts;
  front : AllByRecursion (λ row. before l.edge row.pid ≡ true) (flat_map g.P.Part.rows (take l.low l.parts));
  next : (d : g.row.P.Denot) → l.high + 1 < length l.parts → all_before (before l.edge) (g.P.Part.rows (get_or l.parts l.high d)) ≡ false;
}

abbrev pub decreases-loop-low : goal.decreases-loop-low
decreases-loop-low g l = l.high - l.low
