-- Nodes that may be lost. A node that is lost stops for good. Of what is on the way from it to each other the first packets
-- stay, and behind them goes a last notice: who takes it sees the loss, and so has taken all that came from the lost.
use Rattle.std.specs.Prelude.{◌≡◌, ℕ, zero, suc, Bool, true, false, not, ◌&&◌, ◌||◌, cond, nat_le}
use Rattle.std.specs.Prelude.{map, take, length, List, [], ◌∷◌, ◌++◌, Option, Some, None, option_map}
use Rattle.pg_step.specs.Machines.Places.{is_place, is_pair, set_at}
use Rattle.pg_step.specs.Machines.Machine.{Machine, Turn, Input, Taken, Own, Event, World, node_of, happens}

-- a packet, or the last notice of a node that is lost
pub data Noticed (Packet : Type 0) : Type 0 where
  Sent : Packet → Noticed Packet
  Last : Noticed Packet

-- a turn, with other packets in place of those that it sends
abbrev pub mapped_turn : {S P Q O : Type 0} → (P → Q) → Turn S P O → Turn S Q O
mapped_turn into t = record { state = t.state; sends = λ q. map into (t.sends q); reported = t.reported }

-- a step of the machine, or a loss that is seen
abbrev pub noticed_step : {S P C O : Type 0} → Machine S P C O → (ℕ → ℕ → S → Option (Turn S P O)) → ℕ → S → Input (Noticed P) C → Option (Turn S P O)
noticed_step m see i s (Taken p (Sent x)) = m.step i s (Taken p x)
noticed_step m see i s (Taken p Last) = see i p s
noticed_step m see i s (Own c) = m.step i s (Own c)

-- The machine with notices: `see i p s` is what node i makes of the loss of node p.
abbrev pub with_notices : {S P C O : Type 0} → Machine S P C O → (ℕ → ℕ → S → Option (Turn S P O)) → Machine S (Noticed P) C O
with_notices m see = record {
  size = m.size;
  first = m.first;
  opening = λ x y. map Sent (m.opening x y);
  step = λ i s input. option_map (mapped_turn Sent) (noticed_step m see i s input);
}

-- a world, and which of its nodes are lost
pub record LosingWorld (State Packet Report : Type 0) : Type 0 where
  pub world : World State Packet Report
  pub gone : ℕ → Bool

-- an event of a node, or the loss of one: of what is on the way from it to y the first `keep y` packets stay
pub data LosingEvent (Command : Type 0) : Type 0 where
  Step : Event Command → LosingEvent Command
  Lose : (node : ℕ) → (keep : ℕ → ℕ) → LosingEvent Command

abbrev pub nobody_gone : {S P O : Type 0} → World S P O → LosingWorld S P O
nobody_gone w = record { world = w; gone = λ i. false }

-- a test of each place below
abbrev pub each_place : ℕ → (ℕ → Bool) → Bool
each_place zero test = true
each_place (suc n) test = test n && each_place n test

-- no more packets are to stay than are there
abbrev pub can_keep : {S P O : Type 0} → ℕ → World S P O → ℕ → (ℕ → ℕ) → Bool
can_keep size w i keep = each_place size (λ y. not (is_pair size i y) || nat_le (keep y) (length (w.wire i y)))

-- node i stops: `last` is its notice, by its state
abbrev pub stopped : {S P O : Type 0} → ℕ → (S → P) → World S P O → ℕ → (ℕ → ℕ) → World S P O
stopped {S} {P} size last w i keep = record w {
  wire = set_at {A = ℕ → List P} w.wire i (λ y. cond (is_pair size i y) (take (keep y) (w.wire i y) ++ last (w.node i) ∷ []) (w.wire i y));
}

-- The world after an event, or None where it does not happen: as in the machine, and a node that is lost does nothing.
unfoldable pub losing_happens : {S P C O : Type 0} → Machine S P C O → (S → P) → LosingWorld S P O → LosingEvent C → Option (LosingWorld S P O)
losing_happens m last w (Step e) =
    cond (w.gone (node_of e)) None (option_map (λ v. record { world = v; gone = w.gone }) (happens m w.world e))
losing_happens m last w (Lose i keep) =
    cond (is_place m.size i && (not (w.gone i) && can_keep m.size w.world i keep))
    (Some (record { world = stopped m.size last w.world i keep; gone = set_at w.gone i true })) None

-- from the world w each of these events happens, one after another, and leaves the world v
abbrev pub LosingLeads : {S P C O : Type 0} → Machine S P C O → (S → P) → LosingWorld S P O → List (LosingEvent C) → LosingWorld S P O → Type 0
LosingLeads m last w [] v = w ≡ v
LosingLeads {S} {P} {C} {O} m last w (e ∷ es) v = (u : LosingWorld S P O) × (losing_happens m last w e ≡ Some u) × LosingLeads m last u es v

-- these events, each a step
abbrev pub all_steps : {C : Type 0} → List (Event C) → List (LosingEvent C)
all_steps es = map Step es

-- a world, with other packets in place of those on the way
abbrev pub mapped : {S P Q O : Type 0} → (P → Q) → World S P O → World S Q O
mapped into w = record { node = w.node; wire = λ x y. map into (w.wire x y); reported = w.reported }
