-- How many commands of a node are open.
use Rattle.std.specs.Prelude.{◌≡◌, ℕ, zero, suc, ◌+◌, Bool, true, false, cond, length}
use Rattle.pg_step.specs.Config.{Config, ports_at}
use Rattle.pg_step.specs.FrameMachine.{FrameWorld}
use Rattle.pg_step.specs.State.{State, Stage}
use Rattle.pg_step.specs.State.Stage.{Closed}
use Rattle.pg_laws.specs.History.{answers_by}

abbrev pub is_open : Stage → Bool
is_open Closed = false
is_open stage = true

-- how many of the numbers from 1 to this one pass a test
abbrev pub how_many : (ℕ → Bool) → ℕ → ℕ
how_many test zero = 0
how_many test (suc n) = cond (test (suc n)) 1 0 + how_many test n

-- whether the command of this number of a port is open
abbrev pub open_number : ℕ → State → ℕ → Bool
open_number port s number = is_open (s.stages (record { port = port; number = number }))

-- how many commands of a port are open
abbrev pub open_at : ℕ → State → ℕ
open_at port s = how_many (open_number port s) (s.counts port)

-- and of the first so many ports
abbrev pub open_in : ℕ → State → ℕ
open_in zero s = 0
open_in (suc port) s = open_at port s + open_in port s

-- Of node i: each command that came in at a port is answered, or open; and so many are open as it counts.
pub record CountsCommands (config : Config) (w : FrameWorld) (i : ℕ) : Type 0 where
  pub answered : (port : ℕ) → (w.node i).counts port ≡ length (answers_by i w.reported port) + open_at port (w.node i)
  pub open_ones : (w.node i).opened ≡ open_in (ports_at config i) (w.node i)
