-- What an event that happens does, and what it leaves as it was.
use Rattle.std.specs.Prelude.{◌≡◌, ◌≢◌, ℕ, true, List, [], ◌∷◌, ◌++◌, Some}
use Rattle.pg_step.specs.Machines.Places.{is_place, is_pair, set_way}
use Rattle.pg_step.specs.Machines.Machine.{Input, Turn, Machine, Event, World, Taken, Own, Take}
use Rattle.pg_step.specs.Machines.Machine.{Do, node_of, is_there, input_of, without_input, perform}

-- An event happened in the world w and left the world v.
pub record Happened {S P C O : Type 0} (m : Machine S P C O) (w : World S P O) (e : Event C) (v : World S P O) : Type 0 where
  pub there : is_there m.size e ≡ true
  -- what its node was given
  pub input : Input P C
  pub given : input_of w e ≡ Some input
  -- and what the step made of it
  pub turn : Turn S P O
  pub made : m.step (node_of e) (w.node (node_of e)) input ≡ Some turn
  pub leaves : perform (without_input w e) (node_of e) turn ≡ v

-- Node i took a packet of peer p, the first on the way.
pub record Took {S P C O : Type 0} (m : Machine S P C O) (w : World S P O) (i p : ℕ) (v : World S P O) : Type 0 where
  pub pair : is_pair m.size i p ≡ true
  pub packet : P
  pub rest : List P
  pub first : w.wire p i ≡ packet ∷ rest
  pub turn : Turn S P O
  pub made : m.step i (w.node i) (Taken p packet) ≡ Some turn
  pub leaves : perform (record w { wire = set_way w.wire p i rest }) i turn ≡ v

-- Node i did something of its own.
pub record Did {S P C O : Type 0} (m : Machine S P C O) (w : World S P O) (i : ℕ) (command : C) (v : World S P O) : Type 0 where
  pub place : is_place m.size i ≡ true
  pub turn : Turn S P O
  pub made : m.step i (w.node i) (Own command) ≡ Some turn
  pub leaves : perform w i turn ≡ v

-- an event takes a packet that is on the way from x to y
abbrev pub Takes : {C : Type 0} → Event C → ℕ → ℕ → Type 0
Takes (Take i p) x y = (p ≡ x) × (i ≡ y)
Takes (Do i c) x y = ⊥

-- All that is different in the world v behind an event with this turn in the world w.
pub record Changes {S P C O : Type 0} (e : Event C) (turn : Turn S P O) (w v : World S P O) : Type 0 where
  -- its node has the new state, and no other node changes
  pub state : v.node (node_of e) ≡ turn.state
  pub states : (j : ℕ) → j ≢ node_of e → v.node j ≡ w.node j
  -- the first packet is gone from the way that it takes from
  pub taken : (x y : ℕ) → Takes e x y → (packet : P) × (w.wire x y ≡ packet ∷ v.wire x y)
  -- what is sent stands last on the ways from its node, and all other ways are as they were
  pub sent : (y : ℕ) → v.wire (node_of e) y ≡ w.wire (node_of e) y ++ turn.sends y
  pub ways : (x y : ℕ) → x ≢ node_of e → (Takes e x y → ⊥) → v.wire x y ≡ w.wire x y
  pub reported : v.reported ≡ w.reported ++ (node_of e, turn.reported) ∷ []
