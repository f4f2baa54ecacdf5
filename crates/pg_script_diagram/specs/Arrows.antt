-- The packets of a diagram as arrows between rows: the row of an event is its place among all events.
use Rattle.std.specs.Prelude.{ℕ, ◌+◌, Bool, false, cond, nat_eq, max, List, [], ◌∷◌, ◌++◌, Option, Some, None}
use Rattle.pg_script_diagram.specs.declared.arrows.Arrow.{Arrow}
use Rattle.pg_script_diagram.specs.declared.arrows.Ending.{Ending}
use Rattle.pg_script_diagram.specs.declared.arrows.Ending.TheVariants as endings
use Rattle.pg_script_diagram.specs.declared.data.Event.{Event}
use Rattle.pg_script_diagram.specs.declared.data.Event.TheVariants as events

-- ---- from where a packet was sent to where it was taken

-- the first row in which a packet is taken, where the first of these events stands in the row `row`
abbrev pub taken_row : (packet row : ℕ) → List Event → Option ℕ
taken_row packet row [] = None
taken_row packet row (events.Taken other ∷ later) = cond (nat_eq other packet) (Some row) (taken_row packet (row + 1) later)
taken_row packet row (event ∷ later) = taken_row packet (row + 1) later

-- The packets that are sent, as arrows, in their order: the first of them has the number `packet`, and is taken after it was sent.
abbrev pub arrows_from : (packet row : ℕ) → List Event → List Arrow
arrows_from packet row [] = []
arrows_from packet row (events.Sent from to topic label ∷ later) =
    record { from = from; to = to; topic = topic; start = row; end = taken_row packet (row + 1) later } ∷ arrows_from (packet + 1) (row + 1) later
arrows_from packet row (event ∷ later) = arrows_from packet (row + 1) later

-- ---- one event more

-- a packet was taken in a row, if it was not taken before
abbrev pub arrow_end : ℕ → Option ℕ → Option ℕ
arrow_end row None = Some row
arrow_end row (Some before) = Some before

abbrev pub lands : ℕ → Arrow → Arrow
lands row arrow = record { from = arrow.from; to = arrow.to; topic = arrow.topic; start = arrow.start; end = arrow_end row arrow.end }

-- the packet of a number was taken in a row, where the first of these has the number `first`
abbrev pub landed : (packet row first : ℕ) → List Arrow → List Arrow
landed packet row first [] = []
landed packet row first (arrow ∷ arrows) = cond (nat_eq packet first) (lands row arrow) arrow ∷ landed packet row (first + 1) arrows

-- what the event of a row makes of the arrows of the events before it
abbrev pub with_event : ℕ → Event → List Arrow → List Arrow
with_event row (events.Sent from to topic label) arrows = arrows ++ record { from = from; to = to; topic = topic; start = row; end = None } ∷ []
with_event row (events.Taken packet) arrows = landed packet row 0 arrows
with_event row event arrows = arrows

-- ---- where an arrow ends

abbrev pub is_loss : ℕ → Event → Bool
is_loss node (events.Lost other) = nat_eq other node
is_loss node event = false

-- the first row in which a node is lost, where the first of these events stands in the row `row`
abbrev pub loss_row : (node row : ℕ) → List Event → Option ℕ
loss_row node row [] = None
loss_row node row (event ∷ later) = cond (is_loss node event) (Some row) (loss_row node (row + 1) later)

-- by where its packet was taken, where its node is lost, and where it was sent
abbrev pub ending : (taken lost : Option ℕ) → ℕ → Ending
ending (Some row) lost start = endings.Taken row
ending None (Some row) start = endings.Lost (max row start)
ending None None start = endings.OnItsWay

abbrev pub ending_of : List Event → Arrow → Ending
ending_of all arrow = ending arrow.end (loss_row arrow.to 0 all) arrow.start
