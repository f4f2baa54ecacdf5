use Rattle.std.proofs.Common.{take}
use Rattle.pg_script_diagram.specs.Graphs.{spots_text}
use Rattle.pg_script_diagram.specs.Pens.{Writes}
use Rattle.pg_script_diagram.proofs.graph.add_spots.Given as goal

-- the worlds so far are drawn
abbrev pub invariant-loop-place : goal.invariant-loop-place
invariant-loop-place l = Writes (spots_text l.most l.graph.spots.items 0 (take l.place l.graph.spots.items)) l.initial.pen l.pen
