-- What a diagram shows of a run, and what was seen of it.
use Rattle.std.specs.Prelude.{ℕ, List, [], ◌∷◌, Option, Some, None, slice_get, string_bytes}
use Rattle.pg_script_diagram.specs.declared.data.Event.{Event}
use Rattle.pg_script_diagram.specs.declared.data.Event.TheVariants as events
use Rattle.pg_script_diagram.specs.declared.data.Topic.{Topic}
use Rattle.pg_script_trace.specs.declared.letter.Letter.{Letter}
use Rattle.pg_script_trace.specs.declared.seen.Seen.{Seen}
use Rattle.pg_script_trace.specs.declared.seen.Seen.TheVariants as sights

-- a packet was sent from one node to another, with this text; the packet of a number was taken; a node was lost; something is noted at
-- a node
pub data Happening : Type 0 where
  Sent : (from to : ℕ) → Topic → (text : List ℕ) → Happening
  Taken : (packet : ℕ) → Happening
  Lost : (node : ℕ) → Happening
  Noted : (node : ℕ) → Happening

-- what an event of a diagram shows
abbrev pub shown : Event → List Happening
shown (events.Line line) = []
shown (events.Sent from to topic label) = Sent from to topic (string_bytes label) ∷ []
shown (events.Taken packet) = Taken packet ∷ []
shown (events.Note node label) = Noted node ∷ []
shown (events.Lost node) = Lost node ∷ []

abbrev pub shown_if : Option Event → List Happening
shown_if None = []
shown_if (Some event) = shown event

-- the packet that was sent, if it is there
abbrev pub sent_happenings : Option Letter → List Happening
sent_happenings None = []
sent_happenings (Some letter) = Sent letter.from letter.to letter.topic (string_bytes letter.text) ∷ []

abbrev pub note_happenings : Option ℕ → List Happening
note_happenings None = []
note_happenings (Some node) = Noted node ∷ []

-- the node at which something happened that is told there
abbrev pub noted_at : Seen → Option ℕ
noted_at (sights.Came node number text clock) = Some node
noted_at (sights.Tried node number clock) = Some node
noted_at (sights.Waits node number) = Some node
noted_at (sights.Answered node number text) = Some node
noted_at (sights.LossSeen node peer clock) = Some node
noted_at seen = None

-- what is shown of what was seen, where these packets were sent; bytes that moved and locks are not shown
abbrev pub seen_as : List Letter → Seen → List Happening
seen_as letters (sights.Taken node packet clock) = Taken packet ∷ []
seen_as letters (sights.Sent packet) = sent_happenings (slice_get letters packet)
seen_as letters (sights.Lost node) = Lost node ∷ []
seen_as letters seen = note_happenings (noted_at seen)
