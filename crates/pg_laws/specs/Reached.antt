-- The worlds that the nodes of a configuration come to, and words for them.
use Rattle.std.specs.Prelude.{◌≡◌, ℕ, true, List, ◌∷◌, ◌++◌, length}
use Rattle.pg_term.specs.declared.pid.Pid.{Pid}
use Rattle.pg_step.specs.PgMessageTypes.declared.message.Message.{Message}
use Rattle.pg_step.specs.Machines.Places.{is_place}
use Rattle.pg_step.specs.Machines.Machine.{Event, Do, start_of}
use Rattle.pg_step.specs.Machines.Clocked.{TimedWorld}
use Rattle.pg_step.specs.Machines.Runs.{Leads}
use Rattle.pg_step.specs.declared.command.Command.TheVariants.{Finish}
use Rattle.pg_step.specs.State.{State}
use Rattle.pg_step.specs.Turns.{Report}
use Rattle.pg_step.specs.Step.{Action, Issue}
use Rattle.pg_step.specs.Config.{Config, name_at}
use Rattle.pg_step.specs.FrameMachine.{frame_machine, FrameWorld}

-- a world with clocks
abbrev pub TimedFrameWorld : Type 0
TimedFrameWorld = TimedWorld State Message Report

-- these events lead the nodes of the configuration from their start to the world
abbrev pub Reaches : Config → List (Event Action) → TimedFrameWorld → Type 0
Reaches config events w = Leads (frame_machine config) (start_of (frame_machine config)) events w

-- the process is of the node at this place, and has ended there
abbrev pub HasEndedAt : Config → FrameWorld → Pid → ℕ → Type 0
HasEndedAt config w pid h = (is_place (length config) h ≡ true) × (pid.node ≡ name_at config h) × ((w.node h).ended pid ≡ true)

-- among these events is the command to a node that a process ends
pub record FinishedAt (events : List (Event Action)) (i : ℕ) (pid : Pid) : Type 0 where
  pub port : ℕ
  pub before : List (Event Action)
  pub after : List (Event Action)
  pub is : events ≡ before ++ Do i (Issue port (Finish pid)) ∷ after
