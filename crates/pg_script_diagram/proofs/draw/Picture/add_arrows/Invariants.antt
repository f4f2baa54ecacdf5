use Rattle.std.proofs.Common.{◌≡◌, length, take}
use Rattle.pg_script_diagram.specs.Drawn.{all_drawn, places_of}
use Rattle.pg_script_diagram.specs.Pens.{Writes}
use Rattle.pg_script_diagram.proofs.Drawing.{last_after}
use Rattle.pg_script_diagram.proofs.draw.Picture.add_arrows.Given as goal

-- the arrows so far are drawn
abbrev pub invariant-loop-place : goal.invariant-loop-place
invariant-loop-place l =
    (l.last ≡ last_after l.self.diagram.now.events.items (length l.self.diagram.now.events.items) (take l.place l.self.arrows.items))
    × Writes (all_drawn (places_of l.self.layout) l.self.diagram.now.events.items (length l.self.diagram.now.events.items) (take l.place l.self.arrows.items)) l.initial.pen l.pen
