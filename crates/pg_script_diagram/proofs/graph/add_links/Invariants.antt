use Rattle.std.proofs.Common.{take}
use Rattle.std.specs.List.{flat_map}
use Rattle.pg_script_diagram.specs.Graphs.{link_text}
use Rattle.pg_script_diagram.specs.Pens.{Writes}
use Rattle.pg_script_diagram.proofs.graph.add_links.Given as goal

-- the steps so far are drawn
abbrev pub invariant-loop-place : goal.invariant-loop-place
invariant-loop-place l = Writes (flat_map (link_text l.most l.graph.spots.items) (take l.place l.graph.links.items)) l.initial.pen l.pen
