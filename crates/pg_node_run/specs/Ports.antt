-- What a clause sees of the two ends of a port.
use Rattle.std.specs.Prelude.{◌≡◌, ◌⊎◌, ℕ, ◌<◌, ◌≤◌, ◌+◌, ◌-◌, ◌^◌, Bool, true, false, nat_eq}
use Rattle.std.specs.Prelude.{List, [], ◌∷◌, ◌++◌, Option, Some, None, length, min, take}
use Rattle.std.specs.List.{list_any}
use Rattle.pg_node.specs.PgRing.Slots.{given, taken, slots_free, slots_left, AreSlots, SameSlotOut, SameSlotIn}
use Rattle.pg_node_run.specs.declared.pauses.Pauses.{Pauses}
use Rattle.pg_node_run.specs.declared.port.Asked.{Asked}
use Rattle.pg_node_run.specs.declared.port.Client.{Client}
use Rattle.pg_node_run.specs.declared.port.Port.{Port}
use Rattle.pg_node_run.specs.Pauses.{wait_of}
use Rattle.pg_node.specs.PgStep.declared.answer.Answer.{Answer}
use Rattle.pg_node.specs.PgStep.declared.command.OpId.{OpId}

-- ---- the client's end

-- every command that was ever submitted
abbrev pub submitted : Client → List Asked
submitted client = given client.commands

-- every answer that was ever polled
abbrev pub polled : Client → List Answer
polled client = taken client.answers

-- how many these are, as a machine word counts them
abbrev pub polled_count : Client → ℕ
polled_count client = min (length (polled client)) (2 ^ 64 - 1)

-- for how many commands it knows a free place
abbrev pub places_free : Client → ℕ
places_free client = slots_free client.commands

-- the answers that it knows to be there
abbrev pub answers_left : Client → List Answer
answers_left client = slots_left client.answers

-- the same end of the same port
abbrev pub SameClient : Client → Client → Type 0
SameClient a b = SameSlotOut a.commands b.commands × SameSlotIn a.answers b.answers

-- the same end, at which nothing was submitted or polled meanwhile
pub record ClientRests (a b : Client) : Type 0 where
  pub same : SameClient a b
  pub submitted : submitted b ≡ submitted a
  pub polled : polled b ≡ polled a

-- Nothing was ever submitted or polled: it knows all 64 places to be free, and of no answer.
pub record IsSilent (client : Client) : Type 0 where
  pub submitted : submitted client ≡ []
  pub polled : polled client ≡ []
  pub free : places_free client ≡ 64
  pub left : answers_left client ≡ []

-- ---- the node's end

-- every command that ever came
abbrev pub asked : Port → List Asked
asked port = taken port.commands

-- every answer that was ever handed over
abbrev pub handed : Port → List Answer
handed port = given port.answers

-- how many these are
abbrev pub handed_count : Port → ℕ
handed_count port = port.handed

abbrev pub kept_in : Option Asked → List Asked
kept_in None = []
kept_in (Some next) = next ∷ []

-- the command that came and was not taken, if there is one
abbrev pub asked_kept : Port → List Asked
asked_kept port = kept_in port.kept

-- the commands that it knows to be there
abbrev pub commands_left : Port → List Asked
commands_left port = slots_left port.commands

-- for how many answers it knows a free place
abbrev pub answers_free : Port → ℕ
answers_free port = slots_free port.answers

-- the same end of the same port
abbrev pub SamePort : Port → Port → Type 0
SamePort a b = SameSlotIn a.commands b.commands × SameSlotOut a.answers b.answers

-- the same end, at which nothing came and nothing was handed over meanwhile
pub record PortRests (a b : Port) : Type 0 where
  pub same : SamePort a b
  pub asked : asked b ≡ asked a
  pub kept : asked_kept b ≡ asked_kept a
  pub handed : handed b ≡ handed a
  pub count : handed_count b ≡ handed_count a

-- Nothing ever came, and nothing was handed over: it knows all 64 places to be free, and of no command.
pub record IsUnused (port : Port) : Type 0 where
  pub asked : asked port ≡ []
  pub kept : asked_kept port ≡ []
  pub handed : handed port ≡ []
  pub count : handed_count port ≡ 0
  pub free : answers_free port ≡ 64
  pub left : commands_left port ≡ []

-- what was handed over is the first of these answers
pub record HandedOver (answers : List Answer) (port : Port) : Type 0 where
  pub first : handed port ≡ take (handed_count port) answers
  pub within : handed_count port ≤ length answers

-- what came is what was given before, and then this command, behind which none is kept
pub record GivesNext (a b : Port) (next : Asked) : Type 0 where
  pub came : (before : List Asked) → asked a ≡ before ++ asked_kept a → asked b ≡ before ++ next ∷ []
  pub none : asked_kept b ≡ []

-- what came is what was given before, and then what is kept
abbrev pub KeepsAll : Port → Port → Type 0
KeepsAll a b = (before : List Asked) → asked a ≡ before ++ asked_kept a → asked b ≡ before ++ asked_kept b

-- a command came, or none is found to be there
abbrev pub HasLookedIn : Port → Port → Type 0
HasLookedIn a b = (commands_left b ≡ []) ⊎ (length (asked a) < length (asked b))

-- It was served: what it keeps, if anything, is a command whose client had polled more answers than were handed over before; where it
-- kept none before, one came, or none was found.
pub record IsPortServed (a b : Port) : Type 0 where
  pub early : (next : Asked) → asked_kept b ≡ next ∷ [] → handed_count a < next.polled
  pub looked : asked_kept a ≡ [] → HasLookedIn a b

-- it stays where commands come
pub record KeepsSame (a b : Port) : Type 0 where
  pub asked : asked b ≡ asked a
  pub kept : asked_kept b ≡ asked_kept a
  pub left : commands_left b ≡ commands_left a

-- some of these answers were handed over
pub record Hands (answers : List Answer) (a b : Port) : Type 0 where
  pub same : SamePort a b
  pub keeps : KeepsSame a b
  pub handed : HandedOver answers a → HandedOver answers b

-- none of these answers is left to be handed over, or no place is found to be free
abbrev pub HandsNoMore : List Answer → Port → Type 0
HandsNoMore answers port = (length answers ≤ handed_count port) ⊎ (answers_free port ≡ 0)

-- they were handed over until then, or 64 of them
abbrev pub HandsAll : List Answer → Port → Port → Type 0
HandsAll answers a b = HandsNoMore answers b ⊎ (handed_count b ≡ handed_count a + 64)

-- an answer to a command of this number was handed over
abbrev pub has_number : ℕ → List Answer → Bool
has_number number answers = list_any (λ (answer : Answer). nat_eq answer.number number) answers

-- an answer to this command was, if it is one of the port's
abbrev pub was_handed : OpId → Port → Bool
was_handed op port = has_number op.number (handed port)

-- an answer of this number was handed over, or none
abbrev pub HandsNext : Option ℕ → Port → Port → Type 0
HandsNext (Some number) a b = (answer : Answer) × (answer.number ≡ number) × (handed b ≡ handed a ++ answer ∷ []) × (handed_count b ≡ handed_count a + 1)
HandsNext None a b = handed b ≡ handed a

-- More answers were handed over, or none; where one of them is to this command of the port, the command has no pause any more.
pub record HandsMore (op : OpId) (a b : Port) (pauses2 : Pauses) : Type 0 where
  pub more : List Answer
  pub handed : handed b ≡ handed a ++ more
  pub forgotten : has_number op.number more ≡ true → wait_of pauses2 op ≡ None

-- Where answers were handed over at the port at a place: what was handed over is so still, and how any other command waits stays. One of
-- which an answer was handed over has no pause any more, and none begins.
pub record ForgetsHanded (place : ℕ) (a b : Port) (pauses pauses2 : Pauses) : Type 0 where
  pub earlier : (op : OpId) → was_handed op b ≡ false → was_handed op a ≡ false
  pub stays : (op : OpId) → (op.port ≡ place → was_handed op b ≡ false) → wait_of pauses2 op ≡ wait_of pauses op
  pub gone : (op : OpId) → op.port ≡ place → HandsMore op a b pauses2
  pub none : (op : OpId) → wait_of pauses op ≡ None → wait_of pauses2 op ≡ None

-- ---- both

-- they are the ends of one port
abbrev pub ArePort : Client → Port → Type 0
ArePort client port = AreSlots client.commands port.commands × AreSlots port.answers client.answers

-- nothing went over it
abbrev pub AreNew : Client → Port → Type 0
AreNew client port = IsSilent client × IsUnused port

-- What came at the node is the first of what was submitted, and what was polled is the first of what was handed over.
pub record Meets (client : Client) (port : Port) : Type 0 where
  pub on_the_way : List Asked
  pub asked : submitted client ≡ asked port ++ on_the_way
  pub unpolled : List Answer
  pub polled : handed port ≡ polled client ++ unpolled
