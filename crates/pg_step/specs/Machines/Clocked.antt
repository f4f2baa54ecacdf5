-- Clocks and stamps for a machine whose step knows of none (Lamport's clocks).
use Rattle.std.specs.Prelude.{ℕ, ◌+◌, Bool, true, cond, nat_le, max, map, List, Option, Some, None}
use Rattle.std.specs.Option.{option_map_or}
use Rattle.pg_step.specs.Machines.Machine.{Input, Turn, Machine, Event, World, Taken, Own, node_of, input_of}

-- a state, and the clock of its node
pub record Timed (State : Type 0) : Type 0 where
  pub clock : ℕ
  pub state : State

-- a packet, and the clock that the event which sent it had set
pub record Stamped (Packet : Type 0) : Type 0 where
  pub stamp : ℕ
  pub packet : Packet

abbrev pub TimedWorld : (State Packet Report : Type 0) → Type 0
TimedWorld State Packet Report = World (Timed State) (Stamped Packet) Report

-- the input without its stamp
abbrev pub unstamped : {P C : Type 0} → Input (Stamped P) C → Input P C
unstamped (Taken p x) = Taken p x.packet
unstamped (Own c) = Own c

-- The clock that an input sets: past the clock so far, and past the stamp of a packet that is taken.
abbrev pub next_clock : {P C : Type 0} → ℕ → Input (Stamped P) C → ℕ
next_clock clock (Taken p x) = max clock x.stamp + 1
next_clock clock (Own c) = clock + 1

-- packets with this stamp
abbrev pub stamped : {P : Type 0} → ℕ → List P → List (Stamped P)
stamped stamp packets = map (λ x. record { stamp = stamp; packet = x }) packets

-- packets without their stamps
abbrev pub packets_of : {P : Type 0} → List (Stamped P) → List P
packets_of xs = map (λ x. x.packet) xs

-- the turn that sets this clock: what it sends carries it
abbrev pub timed_turn : {S P O : Type 0} → ℕ → Turn S P O → Turn (Timed S) (Stamped P) O
timed_turn clock t = record {
  state = record { clock = clock; state = t.state };
  sends = λ q. stamped clock (t.sends q);
  reported = t.reported;
}

-- a turn is refused where its clock would pass the limit
abbrev pub timed : {S P O : Type 0} → ℕ → ℕ → Option (Turn S P O) → Option (Turn (Timed S) (Stamped P) O)
timed limit clock None = None
timed limit clock (Some t) = cond (nat_le clock limit) (Some (timed_turn clock t)) None

-- The machine with clocks, 0 at first, and stamps, 0 on the opening packets.
abbrev pub clocked : {S P C O : Type 0} → ℕ → Machine S P C O → Machine (Timed S) (Stamped P) C O
clocked limit m = record {
  size = m.size;
  first = λ i. record { clock = 0; state = m.first i };
  opening = λ x y. stamped 0 (m.opening x y);
  step = λ i s input. timed limit (next_clock s.clock input) (m.step i s.state (unstamped input));
}

-- a world without its clocks and stamps
abbrev pub plain : {S P O : Type 0} → TimedWorld S P O → World S P O
plain w = record { node = λ i. (w.node i).state; wire = λ x y. packets_of (w.wire x y); reported = w.reported }

-- whether the clock that an event would set stays within the limit
abbrev pub clock_allows : {S P C O : Type 0} → ℕ → TimedWorld S P O → Event C → Bool
clock_allows limit w e = option_map_or (λ input. nat_le (next_clock (w.node (node_of e)).clock input) limit) (input_of w e) true
