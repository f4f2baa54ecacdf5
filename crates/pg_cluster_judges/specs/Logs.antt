-- The logs of nodes that ran apart.
use Rattle.std.specs.Prelude.{◌≡◌, ◌≢◌, ℕ, ◌<◌, true, cond, nat_eq, map, List, [], ◌∷◌, ◌++◌, Some}
use Rattle.std.specs.List.{flat_map}
use Rattle.pg_world.specs.PgStep.Machines.Machine.{Input, Turn, Machine, Event, Taken, Own, Take, Do, is_there}
use Rattle.pg_world.specs.PgStep.Machines.Clocked.{Timed, Stamped}

-- what a node was given, and the turn that its step made of it
pub record LoggedAct (State Packet Command Report : Type 0) : Type 0 where
  pub input : Input Packet Command
  pub turn : Turn State Packet Report

-- the event that gives node i an input
abbrev pub event_of : {P C : Type 0} → ℕ → Input P C → Event C
event_of i (Taken p x) = Take i p
event_of i (Own c) = Do i c

-- From the state s node i makes these turns, one after another, and comes to the state t.
abbrev pub NodeLeads : {S P C O : Type 0} → Machine S P C O → ℕ → S → List (LoggedAct S P C O) → S → Type 0
NodeLeads m i s [] t = s ≡ t
NodeLeads m i s (a ∷ acts) t =
    (is_there m.size (event_of i a.input) ≡ true) × (m.step i s a.input ≡ Some a.turn) × NodeLeads m i a.turn.state acts t

-- what a node sent to node q
abbrev pub sent_to : {S P C O : Type 0} → ℕ → List (LoggedAct S P C O) → List P
sent_to q acts = flat_map (λ a. a.turn.sends q) acts

-- the packet of an input, where it comes from node p
abbrev pub packet_from : {P C : Type 0} → ℕ → Input P C → List P
packet_from p (Taken q x) = cond (nat_eq q p) (x ∷ []) []
packet_from p (Own c) = []

-- what a node took from node p
abbrev pub taken_from : {S P C O : Type 0} → ℕ → List (LoggedAct S P C O) → List P
taken_from p acts = flat_map (λ a. packet_from p a.input) acts

-- the entry of a log: the clock that an event of node i set, and the event
abbrev pub log_entry : {S P C O : Type 0} → ℕ → LoggedAct (Timed S) (Stamped P) C O → ℕ × Event C
log_entry i a = (a.turn.state.clock, event_of i a.input)

-- what a node reported
abbrev pub reports_of : {S P C O : Type 0} → List (LoggedAct S P C O) → List O
reports_of acts = map (λ a. a.turn.reported) acts

-- Each node ran from its first state to `ends i`, and its log has an entry for each of its turns. What it took from another is
-- a prefix of what that had sent to it: `left p q` was sent by p and not taken by q.
pub record AreLogs {S P C O : Type 0} (m : Machine (Timed S) (Stamped P) C O) (logs : ℕ → List (ℕ × Event C))
    (acts : ℕ → List (LoggedAct (Timed S) (Stamped P) C O)) (ends : ℕ → Timed S) (left : ℕ → ℕ → List (Stamped P)) : Type 0 where
  pub runs : (i : ℕ) → i < m.size → NodeLeads m i (m.first i) (acts i) (ends i)
  pub entries : (i : ℕ) → i < m.size → logs i ≡ map (log_entry i) (acts i)
  pub ways : (p q : ℕ) → p < m.size → q < m.size → p ≢ q
      → m.opening p q ++ sent_to q (acts p) ≡ taken_from p (acts q) ++ left p q
