-- The lines of a trace: what each cell of a line has.
use Rattle.std.specs.Prelude.{◌≡◌, ℕ, ◌+◌, ◌^◌, ◌-◌, min, max, List, [], ◌∷◌, ◌++◌, Option, Some}
use Rattle.std.specs.Prelude.{None, String, string_bytes, slice_get, codes, decimal, length}
use Rattle.std.specs.declared.alloc.Global.{Global}
use Rattle.std.specs.Str.{chars}
use Rattle.pg_text.specs.Writing.{GrowsBy}
use Rattle.pg_script_lines.specs.declared.rows.Row.{Row}
use Rattle.pg_script_lines.specs.declared.rows.Widths.{Widths}
use Rattle.pg_script_lines.specs.Rows.{row_line}
use Rattle.pg_script_trace.specs.declared.letter.Letter.{Letter}
use Rattle.pg_script_trace.specs.declared.seen.Seen.{Seen}
use Rattle.pg_script_trace.specs.declared.seen.Seen.TheVariants.{Put, Pulled, NotThere, Taken, Came, Tried, Sent}
use Rattle.pg_script_trace.specs.declared.seen.Seen.TheVariants.{Granted, Freed, Denied, Waits, Answered, LossSeen, Lost}

abbrev pub NodeNames : Type 0
NodeNames = List (String Global)

-- these bytes were appended to a text
pub record GrewBy (bytes : List ℕ) (old new : String Global) : Type 0 where
  pub by : string_bytes new ≡ string_bytes old ++ bytes

-- ---- nodes

abbrev pub name_in : Option (String Global) → List ℕ
name_in None = codes "?"
name_in (Some name) = string_bytes name

-- the name of the node at a place, `?` where there is none
abbrev pub name_of : NodeNames → ℕ → List ℕ
name_of names node = name_in (slice_get names node)

abbrev pub sender_of : Option Letter → Option ℕ
sender_of None = None
sender_of (Some letter) = Some letter.from

-- where something was seen; a packet where it was sent
abbrev pub place_of : List Letter → Seen → Option ℕ
place_of letters (Put from to count) = Some from
place_of letters (Pulled to from count) = Some to
place_of letters (NotThere node peer) = Some node
place_of letters (Taken node packet clock) = Some node
place_of letters (Came node number text clock) = Some node
place_of letters (Tried node number clock) = Some node
place_of letters (Sent packet) = sender_of (slice_get letters packet)
place_of letters (Granted node name to) = Some node
place_of letters (Freed node name by) = Some node
place_of letters (Denied node name to) = Some node
place_of letters (Waits node number) = Some node
place_of letters (Answered node number text) = Some node
place_of letters (LossSeen node peer clock) = Some node
place_of letters (Lost node) = Some node

abbrev pub place_cell : NodeNames → Option ℕ → List ℕ
place_cell names None = []
place_cell names (Some node) = name_of names node

-- ---- clocks

abbrev pub stamp_in : Option Letter → Option ℕ
stamp_in None = None
stamp_in (Some letter) = Some letter.stamp

-- the clock that an event set, or with which a packet was sent
abbrev pub clock_of : List Letter → Seen → Option ℕ
clock_of letters (Taken node packet clock) = Some clock
clock_of letters (Came node number text clock) = Some clock
clock_of letters (Tried node number clock) = Some clock
clock_of letters (LossSeen node peer clock) = Some clock
clock_of letters (Sent packet) = stamp_in (slice_get letters packet)
clock_of letters seen = None

abbrev pub clock_cell : Option ℕ → List ℕ
clock_cell None = []
clock_cell (Some clock) = decimal clock

-- ---- what happened, and with which other node

abbrev pub event_cell : Seen → List ℕ
event_cell (Put from to count) = codes "put"
event_cell (Pulled to from count) = codes "pull"
event_cell (NotThere node peer) = codes "take"
event_cell (Taken node packet clock) = codes "take"
event_cell (Came node number text clock) = codes "do"
event_cell (Tried node number clock) = codes "retry"
event_cell (Sent packet) = codes "send"
event_cell (Granted node name to) = codes "lock"
event_cell (Freed node name by) = codes "lock"
event_cell (Denied node name to) = codes "lock"
event_cell (Waits node number) = codes "wait"
event_cell (Answered node number text) = codes "reply"
event_cell (LossSeen node peer clock) = codes "see"
event_cell (Lost node) = codes "lose"

abbrev pub sender_cell : NodeNames → Option Letter → List ℕ
sender_cell names None = []
sender_cell names (Some letter) = codes "from " ++ name_of names letter.from

abbrev pub receiver_cell : NodeNames → Option Letter → List ℕ
receiver_cell names None = []
receiver_cell names (Some letter) = codes "to " ++ name_of names letter.to

abbrev pub way_cell : NodeNames → List Letter → Seen → List ℕ
way_cell names letters (Put from to count) = codes "to " ++ name_of names to
way_cell names letters (Pulled to from count) = codes "from " ++ name_of names from
way_cell names letters (NotThere node peer) = codes "from " ++ name_of names peer
way_cell names letters (Taken node packet clock) = sender_cell names (slice_get letters packet)
way_cell names letters (Sent packet) = receiver_cell names (slice_get letters packet)
way_cell names letters (LossSeen node peer clock) = codes "of " ++ name_of names peer
way_cell names letters seen = []

-- ---- what else was seen

-- the text of a packet's message
abbrev pub text_at : Option Letter → List ℕ
text_at None = []
text_at (Some letter) = string_bytes letter.text

-- what happened to the command of a number
abbrev pub command_text : ℕ → (happened text : List ℕ) → List ℕ
command_text number happened text = codes "command " ++ decimal number ++ happened ++ text

abbrev pub what_cell : List Letter → Seen → List ℕ
what_cell letters (Put from to count) = decimal count ++ codes " bytes"
what_cell letters (Pulled to from count) = decimal count ++ codes " bytes"
what_cell letters (NotThere node peer) = codes "no whole packet"
what_cell letters (Taken node packet clock) = text_at (slice_get letters packet)
what_cell letters (Sent packet) = text_at (slice_get letters packet)
what_cell letters (Came node number text clock) = command_text number (codes ": ") (string_bytes text)
what_cell letters (Tried node number clock) = command_text number (codes " again") []
what_cell letters (Waits node number) = command_text number (codes " waits for a retry") []
what_cell letters (Granted node name to) = string_bytes name ++ codes " granted to " ++ string_bytes to
what_cell letters (Freed node name by) = string_bytes name ++ codes " freed by " ++ string_bytes by
what_cell letters (Denied node name to) = string_bytes name ++ codes " denied to " ++ string_bytes to
what_cell letters (Answered node number text) = string_bytes text
what_cell letters (LossSeen node peer clock) = codes "the loss is seen"
what_cell letters (Lost node) = codes "the node is lost"

-- ---- lines

pub record IsEmpty (row : Row) : Type 0 where
  pub line : string_bytes row.line ≡ []
  pub node : string_bytes row.node ≡ []
  pub clock : string_bytes row.clock ≡ []
  pub event : string_bytes row.event ≡ []
  pub way : string_bytes row.way ≡ []
  pub what : string_bytes row.what ≡ []

-- the names of the columns
pub record IsHead (row : Row) : Type 0 where
  pub line : string_bytes row.line ≡ codes "line"
  pub node : string_bytes row.node ≡ codes "node"
  pub clock : string_bytes row.clock ≡ codes "clock"
  pub event : string_bytes row.event ≡ codes "event"
  pub way : string_bytes row.way ≡ codes "with"
  pub what : string_bytes row.what ≡ codes "what"

-- the cells of what was seen while the line of this number was done, among nodes of these names, where these packets were sent
pub record IsLine (names : NodeNames) (letters : List Letter) (number : ℕ) (seen : Seen) (row : Row) : Type 0 where
  pub line : string_bytes row.line ≡ decimal number
  pub node : string_bytes row.node ≡ place_cell names (place_of letters seen)
  pub clock : string_bytes row.clock ≡ clock_cell (clock_of letters seen)
  pub event : string_bytes row.event ≡ event_cell seen
  pub way : string_bytes row.way ≡ way_cell names letters seen
  pub what : string_bytes row.what ≡ what_cell letters seen

-- the line of these cells was appended
pub record Appends (widths : Widths) (is_row : Row → Type 0) (old new : List ℕ) : Type 0 where
  pub row : Row
  pub is : is_row row
  pub adds : GrowsBy (row_line widths row) old new

-- a line for each sight, but none for an answer
abbrev pub PrintsSight : Widths → NodeNames → List Letter → ℕ → Seen → (old new : List ℕ) → Type 0
PrintsSight widths names letters line (Answered node number text) old new = new ≡ old
PrintsSight widths names letters line seen old new = Appends widths (IsLine names letters line seen) old new

-- ---- widths

-- how many characters the longest name has
abbrev pub widest : NodeNames → ℕ
widest [] = 0
widest (name ∷ names) = max (length (chars (string_bytes name))) (widest names)

-- no name and no number of a line is wider than its cells, where this is the greatest number
abbrev pub widths_of : NodeNames → (last : ℕ) → Widths
widths_of names last = record {
  line = max (length (decimal last)) 4;
  node = max (widest names) 4;
  clock = 5;
  event = 5;
  way = min (widest names + 5) (2 ^ 64 - 1);
}
