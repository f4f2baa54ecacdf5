-- Nodes that step one at a time, and the packets on the way between them.
use Rattle.std.specs.Prelude.{ℕ, Bool, cond, List, [], ◌∷◌, ◌++◌, drop, Option, Some, None, option_map, option_and_then}
use Rattle.pg_step.specs.Machines.Places.{is_place, is_pair, set_at, set_way}

-- what a node's step is given: a packet that it takes from a peer, or something of its own, as a command or a retry
pub data Input (Packet Command : Type 0) : Type 0 where
  Taken : (peer : ℕ) → Packet → Input Packet Command
  Own : Command → Input Packet Command

-- what a node makes of an input, at once: its new state, what it sends to each peer, and what it reports beside
pub record Turn (State Packet Report : Type 0) : Type 0 where
  pub state : State
  pub sends : ℕ → List Packet
  pub reported : Report

pub record Machine (State Packet Command Report : Type 0) : Type 0 where
  -- how many nodes there are
  pub size : ℕ
  -- the first state of each
  pub first : ℕ → State
  -- what each has sent to each at the start: `opening x y` from x to y
  pub opening : ℕ → ℕ → List Packet
  -- what a node makes of an input in a state; None where it refuses it
  pub step : ℕ → State → Input Packet Command → Option (Turn State Packet Report)

-- a step of one node: it takes the next packet of a peer, or does something of its own
pub data Event (Command : Type 0) : Type 0 where
  Take : (node peer : ℕ) → Event Command
  Do : (node : ℕ) → Command → Event Command

-- whose event it is
abbrev pub node_of : {C : Type 0} → Event C → ℕ
node_of (Take i p) = i
node_of (Do i c) = i

pub record World (State Packet Report : Type 0) : Type 0 where
  pub node : ℕ → State
  -- the packets on the way, the first to be taken first: `wire x y` from x to y
  pub wire : ℕ → ℕ → List Packet
  -- what each turn reported, and whose turn it was, the earliest first
  pub reported : List (ℕ × Report)

-- each node in its first state, its opening packets on the way
abbrev pub start_of : {S P C O : Type 0} → Machine S P C O → World S P O
start_of m = record { node = m.first; wire = m.opening; reported = [] }

-- whether the places that an event names are there
abbrev pub is_there : {C : Type 0} → ℕ → Event C → Bool
is_there size (Take i p) = is_pair size i p
is_there size (Do i c) = is_place size i

-- the first of the packets that peer p sent
abbrev pub first_from : {P C : Type 0} → ℕ → List P → Option (Input P C)
first_from p [] = None
first_from p (x ∷ rest) = Some (Taken p x)

-- what an event gives its node; None where no packet is on the way
abbrev pub input_of : {S P C O : Type 0} → World S P O → Event C → Option (Input P C)
input_of w (Take i p) = first_from p (w.wire p i)
input_of w (Do i c) = Some (Own c)

-- the world without the packet that an event takes
abbrev pub without_input : {S P C O : Type 0} → World S P O → Event C → World S P O
without_input w (Take i p) = record w { wire = set_way w.wire p i (drop 1 (w.wire p i)) }
without_input w (Do i c) = w

-- what the node of an event makes of it; None where nothing is on the way, or the step refuses
abbrev pub turn_of : {S P C O : Type 0} → Machine S P C O → World S P O → Event C → Option (Turn S P O)
turn_of m w e = option_and_then (m.step (node_of e) (w.node (node_of e))) (input_of w e)

-- node i makes a turn: what it sends goes behind what is on the way
abbrev pub perform : {S P O : Type 0} → World S P O → ℕ → Turn S P O → World S P O
perform {S} {P} w i t = record w {
  node = set_at w.node i t.state;
  wire = set_at {A = ℕ → List P} w.wire i (λ y. w.wire i y ++ t.sends y);
  reported = w.reported ++ (i, t.reported) ∷ [];
}

-- The world after an event, or None where it does not happen: a place is not there, a node would take from itself,
-- no packet is on the way, or the step refuses.
unfoldable pub happens : {S P C O : Type 0} → Machine S P C O → World S P O → Event C → Option (World S P O)
happens m w e = cond (is_there m.size e) (option_map (perform (without_input w e) (node_of e)) (turn_of m w e)) None
