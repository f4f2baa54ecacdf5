use Rattle.std.proofs.Common.{◌≡◌, drop}
use Rattle.pg_script_diagram.specs.Arrows.{loss_row}
use Rattle.pg_script_diagram.proofs.arrows.lost_in.Given as goal

-- the node is not lost before this row
abbrev pub invariant-loop-row : goal.invariant-loop-row
invariant-loop-row l = loss_row l.node 0 l.events ≡ loss_row l.node l.row (drop l.row l.events)
