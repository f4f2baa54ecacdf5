-- What a picture shows of packets.
use Rattle.std.specs.Prelude.{◌≡◌, ℕ, ◌+◌, ◌-◌, ◌^◌, Bool, not, ◌&&◌, cond, nat_eq}
use Rattle.std.specs.Prelude.{nat_lt, min, length, List, [], ◌∷◌, ◌++◌, Option}
use Rattle.std.specs.Io.KnownBytes.{Appends}
use Rattle.pg_script_diagram.specs.declared.arrows.Arrow.{Arrow}
use Rattle.pg_script_diagram.specs.declared.arrows.Ending.{Ending}
use Rattle.pg_script_diagram.specs.declared.arrows.Ending.TheVariants.{Taken, Lost, OnItsWay}
use Rattle.pg_script_diagram.specs.declared.data.Diagram.{Diagram}
use Rattle.pg_script_diagram.specs.declared.data.Event.{Event}
use Rattle.pg_script_diagram.specs.declared.layout.Layout.{Layout}
use Rattle.pg_script_diagram.specs.declared.shapes.Point.{Point}
use Rattle.pg_script_diagram.specs.Arrows.{arrows_from, ending_of}
use Rattle.pg_script_diagram.specs.Lines.{arrow_text, class_of, near, way_text}
use Rattle.pg_script_diagram.specs.Rows.{x_of, y_of}

-- where things stand: from one lifeline to the next, where the first line of names begins, and how many lifelines there are
pub record Places : Type 0 where
  pub gap : ℕ
  pub top : ℕ
  pub nodes : ℕ

-- those of a layout
abbrev pub places_of : Layout → Places
places_of layout = record { gap = layout.gap; top = layout.top; nodes = layout.nodes }

-- where a row meets the lifeline of a node
abbrev pub point_of : Places → (node row : ℕ) → Point
point_of places node row = record { x = x_of places.gap node; y = y_of places.top row }

-- these are two nodes that are there
abbrev pub is_drawn : (nodes from to : ℕ) → Bool
is_drawn nodes from to = nat_lt from nodes && (nat_lt to nodes && not (nat_eq from to))

-- An arrow that ends so: from the lifeline of its sender, in the row in which it was sent, to that of its receiver, in the row in which
-- it was taken. To a lost node, and on its way, it ends dashed. `last`: the row of a packet that is on its way.
abbrev pub text_of : Places → (last : ℕ) → Arrow → Ending → List ℕ
text_of places last arrow (Taken row) = arrow_text (class_of arrow.topic) (point_of places arrow.from arrow.start) (point_of places arrow.to row)
text_of places last arrow (Lost row) =
    way_text (class_of arrow.topic) (point_of places arrow.from arrow.start) (near (point_of places arrow.from arrow.start) (point_of places arrow.to row)) (point_of places arrow.to row)
text_of places last arrow OnItsWay =
    way_text (class_of arrow.topic) (point_of places arrow.from arrow.start) (near (point_of places arrow.from arrow.start) (point_of places arrow.to last)) (near (point_of places arrow.to last) (point_of places arrow.from arrow.start))

-- nothing of a node that is not there, or of one that sends to itself
abbrev pub drawn : Places → List Event → (last : ℕ) → Arrow → List ℕ
drawn places all last arrow = cond (is_drawn places.nodes arrow.from arrow.to) (text_of places last arrow (ending_of all arrow)) []

-- each packet on its way has a row of its own, below all others
abbrev pub row_after : ℕ → Ending → ℕ
row_after last OnItsWay = min (last + 1) (2 ^ 64 - 1)
row_after last ending = last

abbrev pub all_drawn : Places → List Event → (last : ℕ) → List Arrow → List ℕ
all_drawn places all last [] = []
all_drawn places all last (arrow ∷ arrows) = drawn places all last arrow ++ all_drawn places all (row_after last (ending_of all arrow)) arrows

-- these bytes stand between others
pub record Parts (arrows text : List ℕ) : Type 0 where
  pub under : List ℕ
  pub over : List ℕ
  pub is : text ≡ under ++ arrows ++ over

-- A picture has one arrow for each packet, from where it was sent to where it was taken: these, in their order, are all that stands
-- between what is under them and what is over them.
pub record ShowsPackets (diagram : Diagram) (text : List ℕ) : Type 0 where
  pub places : Places
  pub nodes : places.nodes ≡ length diagram.nodes.items
  pub arrows : Parts (all_drawn places diagram.events.items (length diagram.events.items) (arrows_from 0 0 diagram.events.items)) text

-- such a picture was written behind what a writer held
pub record IsWritten (diagram : Diagram) (old new : Option (List ℕ)) : Type 0 where
  pub text : List ℕ
  pub shows : ShowsPackets diagram text
  pub is : Appends old new text
