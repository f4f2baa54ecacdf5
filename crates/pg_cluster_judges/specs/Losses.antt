-- The logs of nodes of which some were lost, and one run out of them.
use Rattle.std.specs.Prelude.{◌≡◌, ◌≢◌, ℕ, zero, suc, ◌+◌, ◌-◌, ◌<◌, ◌≤◌, Bool, true, false}
use Rattle.std.specs.Prelude.{◌&&◌, cond, nat_eq, map, take, length, List, [], ◌∷◌, ◌++◌, Some}
use Rattle.std.specs.List.{flat_map}
use Rattle.pg_world.specs.PgStep.Machines.Machine.{Input, Machine, World, Event, Taken, Own, Take, Do, start_of}
use Rattle.pg_world.specs.PgStep.Machines.Clocked.{Timed, Stamped}
use Rattle.pg_world.specs.PgStep.Machines.Runs.{reported_by}
use Rattle.pg_world.specs.PgStep.Machines.Losing.{LosingWorld, LosingEvent, Step, Lose, losing_happens, nobody_gone}
use Rattle.pg_cluster_judges.specs.Logs.{LoggedAct, NodeLeads, event_of, sent_to, taken_from, reports_of}

-- what an entry says: an event of its node, and whether a last notice is taken by it; or that its node stopped
pub data Logged (Command : Type 0) : Type 0 where
  Turned : Event Command → (sight : Bool) → Logged Command
  Stopped : (node : ℕ) → Logged Command

-- an event of the machine with losses, and whether a last notice is taken by it
abbrev pub MarkedEvent : Type 0 → Type 0
MarkedEvent Command = LosingEvent Command × Bool

-- a node was given a last notice
abbrev pub is_sight : {P C : Type 0} → (P → Bool) → Input P C → Bool
is_sight is_last (Taken p x) = is_last x
is_sight is_last (Own c) = false

-- how many packets of each way are still to be taken behind an event, where before it these were
abbrev pub still_kept : {C : Type 0} → Event C → (ℕ → ℕ → ℕ) → ℕ → ℕ → ℕ
still_kept (Take i from) kept p q = cond (nat_eq q i) (kept p q - cond (nat_eq from p) 1 0) (kept p q)
still_kept (Do i c) kept p q = kept p q

-- The events that entries tell, one after another, where of each way so many packets are still to be taken: as many stay of what a
-- lost node had sent.
abbrev pub events_told : {C : Type 0} → (ℕ → ℕ → ℕ) → List (Logged C) → List (MarkedEvent C)
events_told kept [] = []
events_told kept (Turned e sight ∷ entries) = (Step e, sight) ∷ events_told (still_kept e kept) entries
events_told kept (Stopped i ∷ entries) = (Lose i (kept i), false) ∷ events_told kept entries

-- the entry of a turn; `is_last`: a packet is a last notice
abbrev pub turn_entry : {S P C O : Type 0} → (Stamped P → Bool) → ℕ → LoggedAct (Timed S) (Stamped P) C O → ℕ × Logged C
turn_entry is_last i a = (a.turn.state.clock, Turned (event_of i a.input) (is_sight is_last a.input))

-- The log of node i: an entry for each turn, and where the node is lost a last one, at the clock at which it stopped.
abbrev pub losing_log : {S P C O : Type 0} → (Stamped P → Bool) → ℕ → Bool → Timed S → List (LoggedAct (Timed S) (Stamped P) C O) → List (ℕ × Logged C)
losing_log is_last i lost end acts = map (turn_entry is_last i) acts ++ cond lost ((end.clock, Stopped i) ∷ []) []

-- What comes of the packets that were sent on a way from a node: all, or of a lost node the first ones, and its last notice.
abbrev pub arriving : {P : Type 0} → Bool → ℕ → P → List P → List P
arriving lost kept notice sent = cond lost (take kept sent ++ notice ∷ []) sent

-- As `AreLogs`; `lost i`: node i was lost where its log ends, and of what it had sent to q the first `kept i q` packets stayed.
pub record AreLosingLogs {S P C O : Type 0} (m : Machine (Timed S) (Stamped P) C O) (last : Timed S → Stamped P) (is_last : Stamped P → Bool) (lost : ℕ → Bool)
    (kept : ℕ → ℕ → ℕ) (logs : ℕ → List (ℕ × Logged C)) (acts : ℕ → List (LoggedAct (Timed S) (Stamped P) C O)) (ends : ℕ → Timed S)
    (left : ℕ → ℕ → List (Stamped P)) : Type 0 where
  pub runs : (i : ℕ) → i < m.size → NodeLeads m i (m.first i) (acts i) (ends i)
  pub entries : (i : ℕ) → i < m.size → logs i ≡ losing_log is_last i (lost i) (ends i) (acts i)
  pub few : (p q : ℕ) → p < m.size → q < m.size → p ≢ q → lost p ≡ true
      → kept p q ≤ length (m.opening p q ++ sent_to q (acts p))
  pub ways : (p q : ℕ) → p < m.size → q < m.size → p ≢ q
      → arriving (lost p) (kept p q) (last (ends p)) (m.opening p q ++ sent_to q (acts p)) ≡ taken_from p (acts q) ++ left p q

-- the first of these packets is a last notice
abbrev pub is_first_last : {P : Type 0} → (P → Bool) → List P → Bool
is_first_last is_last [] = false
is_first_last is_last (x ∷ xs) = is_last x

-- In the world w an event takes a last notice just where it is marked so.
abbrev pub MarksNotices : {S P C O : Type 0} → (P → Bool) → World S P O → LosingEvent C → Bool → Type 0
MarksNotices is_last w (Step (Take i p)) sight = sight ≡ is_first_last is_last (w.wire p i)
MarksNotices is_last w (Step (Do i c)) sight = sight ≡ false
MarksNotices is_last w (Lose i keep) sight = sight ≡ false

-- From the world w each of these events happens as it is marked, one after another, and leaves the world v.
abbrev pub MarkedLeads : {S P C O : Type 0} → Machine S P C O → (S → P) → (P → Bool) → LosingWorld S P O → List (MarkedEvent C) → LosingWorld S P O → Type 0
MarkedLeads m last is_last w [] v = w ≡ v
MarkedLeads {S} {P} {C} {O} m last is_last w (x ∷ xs) v =
    (u : LosingWorld S P O) × (losing_happens m last w x.0 ≡ Some u) × MarksNotices is_last w.world x.0 x.1 × MarkedLeads m last is_last u xs v

-- As `Joined`: the events are those that the entries tell, each loss with as many packets as are taken later.
pub record LosingJoined {S P C O : Type 0} (m : Machine (Timed S) (Stamped P) C O) (last : Timed S → Stamped P) (is_last : Stamped P → Bool) (lost : ℕ → Bool)
    (kept : ℕ → ℕ → ℕ) (acts : ℕ → List (LoggedAct (Timed S) (Stamped P) C O)) (ends : ℕ → Timed S) (left : ℕ → ℕ → List (Stamped P))
    (entries : List (Logged C)) : Type 0 where
  pub world : LosingWorld (Timed S) (Stamped P) O
  pub leads : MarkedLeads m last is_last (nobody_gone (start_of m)) (events_told kept entries) world
  pub gone : (i : ℕ) → i < m.size → world.gone i ≡ lost i
  pub nodes : (i : ℕ) → i < m.size → world.world.node i ≡ ends i
  pub ways : (p q : ℕ) → p < m.size → q < m.size → p ≢ q → world.world.wire p q ≡ left p q
  pub reported : (i : ℕ) → i < m.size → reported_by i world.world.reported ≡ reports_of (acts i)

-- ---- where losses stand

-- the clock of the last entry of a log, where it was this before the first
abbrev pub last_from : ℕ → List ℕ → ℕ
last_from clock [] = clock
last_from clock (next ∷ clocks) = last_from next clocks

-- the clocks of a log, and behind them that of the loss of its node, where that is lost
abbrev pub with_loss : Bool → List ℕ → List ℕ
with_loss lost clocks = clocks ++ cond lost (last_from 0 clocks ∷ []) []

-- the loss of a node that did nothing
abbrev pub loss_alone : (ℕ → Bool) → (ℕ → List ℕ) → ℕ → List (ℕ × ℕ)
loss_alone lost clocks i = cond (lost i && nat_eq (length (clocks i)) 0) ((i, 0) ∷ []) []

-- the losses of those of the first so many nodes that did nothing
abbrev pub losses_alone : (ℕ → Bool) → (ℕ → List ℕ) → ℕ → List (ℕ × ℕ)
losses_alone lost clocks zero = []
losses_alone lost clocks (suc n) = losses_alone lost clocks n ++ loss_alone lost clocks n

-- the loss of a node, where this entry of its log is the last
abbrev pub loss_behind : (ℕ → Bool) → (ℕ → List ℕ) → ℕ × ℕ → List (ℕ × ℕ)
loss_behind lost clocks x = cond (lost x.0 && nat_eq (x.1 + 1) (length (clocks x.0))) ((x.0, x.1 + 1) ∷ []) []

-- An order, and the loss of each node that is lost right behind its last entry; those of nodes that did nothing come first.
abbrev pub with_losses : ℕ → (ℕ → Bool) → (ℕ → List ℕ) → List (ℕ × ℕ) → List (ℕ × ℕ)
with_losses size lost clocks order = losses_alone lost clocks size ++ flat_map (λ x. x ∷ loss_behind lost clocks x) order
