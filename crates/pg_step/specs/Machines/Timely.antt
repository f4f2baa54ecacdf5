-- What clocks and stamps promise.
use Rattle.std.specs.Prelude.{◌≡◌, ◌≢◌, ℕ, ◌<◌, ◌≤◌, ◌∷◌, Some}
use Rattle.std.specs.List.{AllByRecursion}
use Rattle.pg_step.specs.Machines.Machine.{Input, Turn, Machine, Event, Taken, node_of}
use Rattle.pg_step.specs.Machines.Happened.{Takes}
use Rattle.pg_step.specs.Machines.Clocked.{Timed, Stamped, TimedWorld, next_clock}

-- Each step of a machine raises its clock and stamps what it sends.
pub record KeepsTime {S P C O : Type 0} (limit : ℕ) (m : Machine (Timed S) (Stamped P) C O) : Type 0 where
  pub raises : (i : ℕ) (s : Timed S) (input : Input (Stamped P) C) (turn : Turn (Timed S) (Stamped P) O)
      → m.step i s input ≡ Some turn → s.clock < turn.state.clock
  pub limited : (i : ℕ) (s : Timed S) (input : Input (Stamped P) C) (turn : Turn (Timed S) (Stamped P) O)
      → m.step i s input ≡ Some turn → turn.state.clock ≤ limit
  -- past the stamp of what it takes
  pub taken : (i : ℕ) (s : Timed S) (p : ℕ) (x : Stamped P) (turn : Turn (Timed S) (Stamped P) O)
      → m.step i s (Taken p x) ≡ Some turn → x.stamp < turn.state.clock
  pub sent : (i : ℕ) (s : Timed S) (input : Input (Stamped P) C) (turn : Turn (Timed S) (Stamped P) O)
      → m.step i s input ≡ Some turn → (y : ℕ) → AllByRecursion (λ (x : Stamped P). x.stamp ≡ turn.state.clock) (turn.sends y)

-- An event with this input and turn in the world w set the clock of its node in the world v.
pub record Ticks {S P C O : Type 0} (limit : ℕ) (e : Event C) (input : Input (Stamped P) C) (turn : Turn (Timed S) (Stamped P) O)
    (w v : TimedWorld S P O) : Type 0 where
  pub clock : (v.node (node_of e)).clock ≡ next_clock (w.node (node_of e)).clock input
  pub raised : (w.node (node_of e)).clock < (v.node (node_of e)).clock
  pub limited : (v.node (node_of e)).clock ≤ limit
  pub others : (j : ℕ) → j ≢ node_of e → (v.node j).clock ≡ (w.node j).clock
  -- the packet that was taken has a stamp below the new clock, and those that were sent carry it
  pub taken : (x y : ℕ) → Takes e x y → (packet : Stamped P) × (w.wire x y ≡ packet ∷ v.wire x y) × (packet.stamp < (v.node y).clock)
  pub sent : (y : ℕ) → AllByRecursion (λ (x : Stamped P). x.stamp ≡ (v.node (node_of e)).clock) (turn.sends y)

-- No clock is past the limit, and no packet on the way has a stamp past the clock of the node that sent it.
pub record IsTimely {S P O : Type 0} (limit : ℕ) (w : TimedWorld S P O) : Type 0 where
  pub clocks : (i : ℕ) → (w.node i).clock ≤ limit
  pub stamps : (x y : ℕ) → AllByRecursion (λ (packet : Stamped P). packet.stamp ≤ (w.node x).clock) (w.wire x y)
