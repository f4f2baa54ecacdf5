use Rattle.std.proofs.Common.{◌≡◌, ◌≤◌, take}
use Rattle.pg_script_diagram.specs.Graphs.{worlds_in_row}
use Rattle.pg_script_diagram.proofs.graph.count_in.Given as goal

-- the worlds so far are counted
abbrev pub invariant-loop-place : goal.invariant-loop-place
invariant-loop-place l = (l.found ≡ worlds_in_row l.row (take l.place l.spots)) × (l.found ≤ l.place)
