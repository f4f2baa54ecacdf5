use Rattle.std.proofs.Common.{◌-◌, ◌≡◌, ◌≤◌, true, false, length, take, drop}
use Rattle.std.specs.List.{AllByRecursion}
use Rattle.pg_index_members.specs.Edges.{before}
use Rattle.pg_index_members.proofs.block.find.Given as goal

-- the rows below `low` stand before the edge, those from `high` on do not
abbrev pub invariant-loop-low : goal.invariant-loop-low
invariant-loop-low l = record {
  in_order : l.low ≤ l.high;
  within : l.high ≤ length l.rows;
  front : AllByRecursion (λ row. before l.edge row.pid ≡ true) (take l.low l.rows);
  rest : AllByRecursion (λ row. before l.edge row.pid ≡ false) (drop l.high l.rows);
}

abbrev pub decreases-loop-low : goal.decreases-loop-low
decreases-loop-low l = l.high - l.low
