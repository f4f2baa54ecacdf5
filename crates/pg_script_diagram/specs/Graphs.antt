-- What a picture of a graph shows: the worlds, and the steps between them.
use Rattle.std.specs.Prelude.{ℕ, ◌+◌, ◌-◌, ◌*◌, ◌/◌, ◌^◌, cond, max, min, nat_eq, List, []}
use Rattle.std.specs.Prelude.{◌∷◌, ◌++◌, take, decimal, codes, Option, Some, None, slice_get}
use Rattle.std.specs.List.{flat_map}
use Rattle.pg_script_diagram.specs.declared.graph.Graph.{Graph}
use Rattle.pg_script_diagram.specs.declared.graph.Link.{Link}
use Rattle.pg_script_diagram.specs.declared.graph.LinkKind.{LinkKind}
use Rattle.pg_script_diagram.specs.declared.graph.LinkKind.TheVariants.{Take, Command, Retry, Loss}
use Rattle.pg_script_diagram.specs.declared.graph.Spot.{Spot}
use Rattle.pg_script_diagram.specs.declared.shapes.Point.{Point}
use Rattle.pg_script_diagram.specs.Drawn.{Parts}
use Rattle.pg_script_diagram.specs.Lines.{CLOSED, line_text}

-- ---- where a world is, in pixels

-- how many of these worlds are in a row
abbrev pub worlds_in_row : ℕ → List Spot → ℕ
worlds_in_row row [] = 0
worlds_in_row row (spot ∷ spots) = cond (nat_eq spot.row row) 1 0 + worlds_in_row row spots

-- how wide a picture is that has so many worlds in a row
abbrev pub width_of : ℕ → ℕ
width_of most = max (52 * most + 40) 640

-- Where a world of a row is, of so many in it: after those that are before it, the row in the middle of the picture.
abbrev pub point_in : (most row count before : ℕ) → Point
point_in most row count before = record { x = (width_of most - 52 * count) / 2 + 52 * before + 26; y = 64 * row + 104 }

-- the world at a place among all worlds, which is in this row
abbrev pub point_of : (most : ℕ) → List Spot → (place row : ℕ) → Point
point_of most spots place row = point_in most row (worlds_in_row row spots) (worlds_in_row row (take place spots))

abbrev pub point_if : (most : ℕ) → List Spot → ℕ → Option Spot → Option Point
point_if most spots place None = None
point_if most spots place (Some spot) = Some (point_of most spots place spot.row)

-- that of the world at a place, if there is one
abbrev pub point_at : (most : ℕ) → List Spot → ℕ → Option Point
point_at most spots place = point_if most spots place (slice_get spots place)

-- ---- what is drawn

-- the class of the line of a step, by its kind
abbrev pub link_class : LinkKind → List ℕ
link_class Take = codes "take"
link_class Command = codes "command"
link_class Retry = codes "retry"
link_class Loss = codes "loss"

-- a line between two worlds, if both are there
abbrev pub line_between : List ℕ → Option Point → Option Point → List ℕ
line_between class None to = []
line_between class (Some from) None = []
line_between class (Some from) (Some to) = line_text class [] from to CLOSED

-- a step
abbrev pub link_text : (most : ℕ) → List Spot → Link → List ℕ
link_text most spots link = line_between (link_class link.kind) (point_at most spots link.from) (point_at most spots link.to)

abbrev pub circle_text : (class : List ℕ) → Point → (radius : ℕ) → List ℕ
circle_text class at radius =
    codes "<circle class=\"" ++ class ++ codes "\" cx=\"" ++ decimal at.x ++ codes "\" cy=\"" ++ decimal at.y ++ codes "\" r=\"" ++ decimal radius ++ codes "\"/>\n"

-- the begin of the tag of a text
abbrev pub text_begin : (class : List ℕ) → Point → List ℕ
text_begin class at = codes "<text class=\"" ++ class ++ codes "\" x=\"" ++ decimal at.x ++ codes "\" y=\"" ++ decimal at.y ++ codes "\""

-- a number, four pixels lower, so that it is in the middle of its circle
abbrev pub number_text : Point → ℕ → List ℕ
number_text at number =
    text_begin (codes "number") (record { x = at.x; y = min (at.y + 4) (2 ^ 128 - 1) }) ++ codes ">" ++ decimal number ++ codes "</text>\n"

-- a circle around the other, where nothing is left to do
abbrev pub end_text : Spot → Point → List ℕ
end_text spot at = cond spot.is_end (circle_text (codes "end") at 18) []

abbrev pub spot_class : Spot → List ℕ
spot_class spot = cond spot.is_marked (codes "marked") (codes "spot")

-- a world: its circle, with its number
abbrev pub spot_text : Spot → Point → ℕ → List ℕ
spot_text spot at number = end_text spot at ++ (circle_text (spot_class spot) at 14 ++ number_text at number)

-- worlds one after another, where the first of them has this place among all: each has the number after its place
abbrev pub spots_text : (most : ℕ) → (all : List Spot) → (place : ℕ) → List Spot → List ℕ
spots_text most all place [] = []
spots_text most all place (spot ∷ later) = spot_text spot (point_of most all place spot.row) (place + 1) ++ spots_text most all (place + 1) later

-- all steps, and over them all worlds
abbrev pub shapes_of : (most : ℕ) → Graph → List ℕ
shapes_of most graph = flat_map (link_text most graph.spots.items) graph.links.items ++ spots_text most graph.spots.items 0 graph.spots.items

-- A picture has one circle for each world, with its number, and one line for each step, between its two worlds: these are all that is
-- between the legend and the end.
pub record ShowsGraph (graph : Graph) (text : List ℕ) : Type 0 where
  pub most : ℕ
  pub shapes : Parts (shapes_of most graph) text
